use Rattle.std.proofs.Common.{take}
use Rattle.draw_sequencer.specs.Filing.{with_encoding}
use Rattle.lossy_refresh.specs.LossyPoints.{LossySeen, IsSame}
use Rattle.window_source.specs.Drafts.{AreDrafts}
use Rattle.window_source.proofs.drafts.prepared.Given as goal

abbrev pub invariant-loop-k : goal.invariant-loop-k
invariant-loop-k g l = (start : LossySeen g.row.R.Denot) × IsSame g.R.Points.has l.fn.lossy start
    × AreDrafts g.R.Points.has l.wid l.now l.next (take l.k (with_encoding l.jobs.jobs l.done.job.number l.done.encoding)) start l.packets.items l.lossy
