use Rattle.std.proofs.Common.{◌≡◌, ◌+◌, ◌≤◌, drop, cond}
use Rattle.delivery_model.specs.Events.{with_result}
use Rattle.plain_window.specs.Plain.{ready_count}
use Rattle.plain_window.proofs.replies.leaving.Given as goal

abbrev pub invariant-loop-job : goal.invariant-loop-job
invariant-loop-job l = record {
  counted : l.count ≤ l.job-index;
  left : l.count + ready_count (cond l.found (drop l.job-index l.jobs) (with_result (drop l.job-index l.jobs) l.number)) ≡ ready_count (with_result l.jobs l.number);
}
