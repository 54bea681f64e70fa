use Rattle.std.proofs.Common.{◌≡◌, length}
use Rattle.window_source.specs.Drafts.{staying_jobs}
use Rattle.window_source.proofs.filing.leave.Given as goal

abbrev pub invariant-loop-ready : goal.invariant-loop-ready
invariant-loop-ready g l = staying_jobs l.jobs.jobs ≡ staying_jobs l.initial.jobs.jobs

abbrev pub decreases-loop-ready : goal.decreases-loop-ready
decreases-loop-ready g l = length l.jobs.jobs
