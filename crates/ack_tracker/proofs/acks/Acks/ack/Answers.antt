use Rattle.std.proofs.Common.{◌≡◌, to_z, of_z, w64, rules, Some, None, refl, ◌∙◌, ap, arith}
use Rattle.std.proofs.lemmas.Int.{to_z-of_z, ints}
use Rattle.ack_tracker.specs.Unacknowledged.{Tracked}
use Rattle.ack_tracker.specs.Kept.{in_order}
use Rattle.ack_tracker.proofs.InOrder.{found_said, without_said, kept_without}
use Rattle.ack_tracker.proofs.acks.Acks.ack.Goals as goal

-- no draw has the number
pub returns-in_default-remove-clause-answer : goal.returns-in_default-remove-clause-answer
returns-in_default-remove-clause-answer c =
    let whole : to_z w64 (of_z w64 c.args.seq) ≡ c.args.seq = to_z-of_z w64 c.args.seq (search rules) in
    let said = rw whole at c.in-Some.ensures in
    let same = ap (λ (t : Tracked). t.draws) c.self.view_is in
    (found_said _ _ same c.self.invariant.distinct c.args.seq c.in-Some.number said None c.in_default-remove.ensures.value, ap in_order c.in_default-remove.ensures.unchanged ∙ same)

-- its draw was removed
pub invariant_of-self-then-time-lt0 : goal.invariant_of-self-then-time-lt0
invariant_of-self-then-time-lt0 c =
    let facts = c.in-Some-remove.ensures in
    kept_without _ _ c.self.invariant facts.unique c.in-Some.number (omega (arith, facts.len)) facts.updates.0

pub invariant_of-self-2 : goal.invariant_of-self-2
invariant_of-self-2 c =
    let facts = c.in-Some-remove.ensures in
    kept_without _ _ c.self.invariant facts.unique c.in-Some.number (omega (arith, facts.len)) facts.updates.0

pub returns-then-time-lt0-clause-answer : goal.returns-then-time-lt0-clause-answer
returns-then-time-lt0-clause-answer c =
    let whole : to_z w64 (of_z w64 c.args.seq) ≡ c.args.seq = to_z-of_z w64 c.args.seq (search rules) in
    let said = rw whole at c.in-Some.ensures in
    let same = ap (λ (t : Tracked). t.draws) c.self.view_is in
    let facts = c.in-Some-remove.ensures in
    let there = found_said _ _ same c.self.invariant.distinct c.args.seq c.in-Some.number said (Some c.in-Some-remove.rect) facts.value in
    (there, grind (arith, ints), without_said _ _ _ same c.self.invariant.distinct facts.unique c.args.seq c.in-Some.number said facts.updates.0)

pub returns-clause-answer : goal.returns-clause-answer
returns-clause-answer c =
    let whole : to_z w64 (of_z w64 c.args.seq) ≡ c.args.seq = to_z-of_z w64 c.args.seq (search rules) in
    let said = rw whole at c.in-Some.ensures in
    let same = ap (λ (t : Tracked). t.draws) c.self.view_is in
    let facts = c.in-Some-remove.ensures in
    let there = found_said _ _ same c.self.invariant.distinct c.args.seq c.in-Some.number said (Some c.in-Some-remove.rect) facts.value in
    (rw there refl, grind (arith, ints), without_said _ _ _ same c.self.invariant.distinct facts.unique c.args.seq c.in-Some.number said facts.updates.0)
