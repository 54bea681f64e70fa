use Rattle.std.proofs.Common.{◌≡◌, drop}
use Rattle.delivery_model.specs.Events.{rect_sent}
use Rattle.plain_window.proofs.replies.rect_sent.Given as goal

abbrev pub invariant-loop-one : goal.invariant-loop-one
invariant-loop-one l = rect_sent (drop l.one-index l.sent) l.number ≡ rect_sent l.sent l.number
