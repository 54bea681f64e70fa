use Rattle.std.proofs.Common.{◌≡◌, to_z, of_z, w64, rules, sym, ◌∙◌, ap}
use Rattle.std.proofs.lemmas.Int.{to_z-of_z}
use Rattle.ack_tracker.specs.Unacknowledged.{Tracked}
use Rattle.ack_tracker.proofs.InOrder.{found_said}
use Rattle.ack_tracker.proofs.acks.Acks.rect_of.Goals as goal

pub returns : goal.returns
returns c =
    let whole : to_z w64 (of_z w64 c.args.seq) ≡ c.args.seq = to_z-of_z w64 c.args.seq (search rules) in
    let said = rw whole at c.in_ok-number.ensures in
    let same = ap (λ (t : Tracked). t.draws) c.self.view_is in
    sym (found_said _ _ same c.self.invariant.distinct c.args.seq c.in_ok-number.number said _ (c.copied.ensures ∙ c.get.ensures.value))
