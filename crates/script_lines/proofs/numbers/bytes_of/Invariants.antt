use Rattle.std.proofs.Common.{◌≡◌, ◌-◌, ◌≤◌, ◌++◌, length, drop}
use Rattle.script_lines.specs.Numbers.{bytes_of}
use Rattle.script_lines.proofs.numbers.bytes_of.Given as goal

abbrev pub invariant-loop-place : goal.invariant-loop-place
invariant-loop-place l = record {
  within : l.place ≤ length l.word;
  rest : l.bytes.items ++ bytes_of (drop l.place l.word) ≡ bytes_of l.word;
}

abbrev pub decreases-loop-place : goal.decreases-loop-place
decreases-loop-place l = length l.word - l.place
