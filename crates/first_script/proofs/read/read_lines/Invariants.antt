use Rattle.std.proofs.Common.{◌≡◌, ◌≤◌, ◌+◌, length, []}
use Rattle.first_script.specs.Text.{lines_of}
use Rattle.first_script.specs.Reading.{script_after}
use Rattle.first_script.proofs.read.read_lines.Given as goal

abbrev pub invariant-loop-rest : goal.invariant-loop-rest
invariant-loop-rest l = record {
  few : length l.reader + length l.rest ≤ 65536;
  reads : script_after l.reader (lines_of l.rest) ≡ script_after [] (lines_of l.text);
}

abbrev pub decreases-loop-rest : goal.decreases-loop-rest
decreases-loop-rest l = length l.rest
