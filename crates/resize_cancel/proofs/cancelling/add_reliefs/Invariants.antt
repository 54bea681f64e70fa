use Rattle.std.proofs.Common.{take}
use Rattle.rect_regions.specs.PointSets.{SamePoints, united}
use Rattle.draw_sequencer.specs.InHand.{relieve}
use Rattle.resize_cancel.proofs.cancelling.add_reliefs.Given as goal

abbrev pub invariant-loop-k : goal.invariant-loop-k
invariant-loop-k g l = SamePoints (g.R.Points.has l.points) (united (g.R.Points.has l.initial.points) (relieve g.R.Points.has (take l.k l.s.jobs)))
