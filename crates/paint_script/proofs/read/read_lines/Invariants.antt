use Rattle.std.proofs.Common.{length}
use Rattle.paint_script.proofs.Texts.{IsRead}
use Rattle.paint_script.proofs.read.read_lines.Given as goal

abbrev pub invariant-loop-rest : goal.invariant-loop-rest
invariant-loop-rest l = IsRead l.text l.reader l.place l.rest

abbrev pub decreases-loop-rest : goal.decreases-loop-rest
decreases-loop-rest l = length l.rest
