use Rattle.std.proofs.Common.{◌≡◌, drop}
use Rattle.delivery_model.specs.Events.{capture_of}
use Rattle.plain_window.proofs.replies.filing_of.Given as goal

abbrev pub invariant-loop-job : goal.invariant-loop-job
invariant-loop-job l = capture_of (drop l.job-index l.jobs) l.number ≡ capture_of l.jobs l.number
