use Rattle.std.proofs.Common.{◌≡◌, take}
use Rattle.paint_script.specs.Validity.{paint_lines}
use Rattle.paint_script.proofs.script.paints_in.Given as goal

abbrev pub invariant-loop-line : goal.invariant-loop-line
invariant-loop-line l = l.paints.items ≡ paint_lines (take l.line-index l.lines)
