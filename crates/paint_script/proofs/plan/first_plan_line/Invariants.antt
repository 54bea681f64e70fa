use Rattle.std.proofs.Common.{length}
use Rattle.paint_script.proofs.Texts.{IsSearched}
use Rattle.paint_script.proofs.plan.first_plan_line.Given as goal

abbrev pub invariant-loop-rest : goal.invariant-loop-rest
invariant-loop-rest l = IsSearched l.text l.number l.rest

abbrev pub decreases-loop-rest : goal.decreases-loop-rest
decreases-loop-rest l = length l.rest
