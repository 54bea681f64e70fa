use Rattle.std.proofs.Common.{◌≡◌, ◌+◌, ◌≤◌, length, None, sym, ◌∙◌, ap, arith}
use Rattle.std.specs.Prelude.{nat_eq}
use Rattle.std.specs.Map.{lookup}
use Rattle.delivery_model.specs.Events.{rect_sent}
use Rattle.ack_tracker.specs.Kept.{in_order}
use Rattle.ack_tracker.specs.Unacknowledged.{Tracked, sent_as, placed}
use Rattle.ack_tracker.proofs.InOrder.{rect_in_order, in_order_put, kept_put}
use Rattle.ack_tracker.proofs.acks.Acks.queued.Goals as goal

pub invariant_of-self-2 : goal.invariant_of-self-2
invariant_of-self-2 c =
    let same = ap (λ (t : Tracked). t.draws) c.self.view_is in
    let unused : rect_sent (in_order c.self.inside.draws.entries) c.args.seq ≡ None = rw same c.requires.unused in
    let absent : lookup (nat_eq c.args.seq) c.self.inside.draws.entries ≡ None = sym (rect_in_order _ c.args.seq c.self.invariant.distinct) ∙ unused in
    let facts = c.in_ok-insert.ensures in
    let sized : length c.insert.new.self.entries ≤ length c.self.inside.draws.entries + 1 = omega (arith, rw (facts.old ∙ absent) at facts.len) in
    kept_put _ _ c.self.invariant facts.unique c.args.seq c.args.r c.requires.small (rw same c.requires.few) unused sized facts.updates.0

pub returns-clause-ok : goal.returns-clause-ok
returns-clause-ok c =
    let same = ap (λ (t : Tracked). t.draws) c.self.view_is in
    let facts = c.in_ok-insert.ensures in
    in_order_put _ _ c.self.invariant.distinct facts.unique c.args.seq c.args.r (rw same c.requires.unused) facts.updates.0 ∙ ap (λ draws. placed draws (sent_as c.args.seq c.args.r)) same
