use Rattle.std.proofs.Common.{◌≡◌, ◌++◌, drop}
use Rattle.plain_window.proofs.copies.copied_jobs.Given as goal

abbrev pub invariant-loop-job : goal.invariant-loop-job
invariant-loop-job l = l.copied.items ++ drop l.job-index l.jobs ≡ l.jobs
