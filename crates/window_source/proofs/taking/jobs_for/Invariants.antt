use Rattle.std.proofs.Common.{◌≡◌, take}
use Rattle.window_source.specs.Taking.{new_jobs}
use Rattle.window_source.proofs.taking.jobs_for.Given as goal

abbrev pub invariant-loop-k : goal.invariant-loop-k
invariant-loop-k g l = l.jobs.items ≡ new_jobs l.conn.0 l.wid (take l.k l.made)
