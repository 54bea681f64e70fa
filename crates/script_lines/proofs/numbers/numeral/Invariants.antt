use Rattle.std.proofs.Common.{◌≡◌, map, take}
use Rattle.script_lines.specs.Numbers.{digit, value}
use Rattle.script_lines.proofs.Digits.{AreDigits}
use Rattle.script_lines.proofs.numbers.numeral.Given as goal

abbrev pub invariant-loop-byte : goal.invariant-loop-byte
invariant-loop-byte l = record {
  stands_for : l.number ≡ value l.base (map digit (take l.byte-index l.word));
  are : AreDigits l.base (take l.byte-index l.word);
}
