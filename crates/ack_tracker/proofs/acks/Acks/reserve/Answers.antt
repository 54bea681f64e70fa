use Rattle.std.proofs.Common.{◌∙◌, ap}
use Rattle.ack_tracker.specs.Unacknowledged.{Tracked}
use Rattle.ack_tracker.proofs.InOrder.{in_order_same, kept_same}
use Rattle.ack_tracker.proofs.acks.Acks.reserve.Goals as goal

pub invariant_of-self-2 : goal.invariant_of-self-2
invariant_of-self-2 c = kept_same _ _ c.self.invariant c.reserve.ensures.unique c.reserve.ensures.entries.1 c.reserve.ensures.entries.2

pub returns-clause-same : goal.returns-clause-same
returns-clause-same c =
    in_order_same _ _ c.self.invariant.distinct c.reserve.ensures.unique c.reserve.ensures.entries.2 ∙ ap (λ (t : Tracked). t.draws) c.self.view_is
