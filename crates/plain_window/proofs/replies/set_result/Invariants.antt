use Rattle.std.proofs.Common.{◌≡◌, ◌++◌, cond, length}
use Rattle.delivery_model.specs.Events.{with_result}
use Rattle.plain_window.proofs.replies.set_result.Given as goal

abbrev pub invariant-marking : goal.invariant-marking
invariant-marking l = l.marked.items ++ cond l.found l.jobs.items (with_result l.jobs.items l.number) ≡ with_result l.fn.jobs.items l.number

abbrev pub decreases-marking : goal.decreases-marking
decreases-marking l = length l.jobs.items
