use Rattle.std.proofs.Common.{◌≡◌, ◌++◌, drop, cond}
use Rattle.delivery_model.specs.Events.{without_sent}
use Rattle.plain_window.proofs.replies.without_sent.Given as goal

abbrev pub invariant-loop-one : goal.invariant-loop-one
invariant-loop-one l =
    l.left.items ++ cond l.found (drop l.one-index l.sent) (without_sent (drop l.one-index l.sent) l.number)
    ≡ without_sent l.sent l.number
