use Rattle.std.proofs.Common.{length, sym, ◌∙◌, ap, subst}
use Rattle.ack_tracker.specs.Unacknowledged.{Tracked}
use Rattle.ack_tracker.specs.Places.{IsTracked}
use Rattle.ack_tracker.proofs.InOrder.{length_in_order, kept_tracked}
use Rattle.ack_tracker.proofs.acks.Acks.load.Goals as goal

pub returns-clause-count : goal.returns-clause-count
returns-clause-count c =
    c.len.ensures.len ∙ sym (length_in_order c.self.inside.draws.entries) ∙ ap (λ (t : Tracked). length t.draws) c.self.view_is

pub returns-clause-kept : goal.returns-clause-kept
returns-clause-kept c = subst IsTracked (ap (λ (t : Tracked). t.draws) c.self.view_is) (kept_tracked _ c.self.invariant)
