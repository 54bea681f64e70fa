-- The model's walks through a list of draws, after a draw took its place and after one was removed.
use Rattle.std.proofs.Common.{◌≡◌, ℕ, suc, ◌+◌, List, [], ◌∷◌, ◌++◌, length, Some, None, IsSome, if◌then◌else◌, refl, arith}
use Rattle.std.specs.Prelude.{nat_eq}
use Rattle.std.proofs.lemmas.Bool.Decides.{nat_tests}
use Rattle.delivery_model.specs.Window.{Sent}
use Rattle.delivery_model.specs.Events.{rect_sent, without_sent}
use Rattle.ack_tracker.specs.Unacknowledged.{placed}
use Rattle.ack_tracker.specs.Places.{AreRising, AllBelow}
use Rattle.ack_tracker.proofs.Rising.{Above, above_absent, rising_above}

pub placed_last : (draws : List Sent) (s : Sent) → AllBelow s.sequence draws → placed draws s ≡ draws ++ s ∷ []
placed_last [] s below = refl
placed_last (d ∷ draws) s below = grind (arith, nat_tests, below 0 (omega arith), placed_last draws s (λ i within. below (suc i) (omega arith)))

pub rect_placed : (draws : List Sent) (s : Sent) (k : ℕ) → rect_sent draws s.sequence ≡ None → rect_sent (placed draws s) k ≡ (if nat_eq k s.sequence then Some s.rect else rect_sent draws k)
rect_placed [] s k new = grind (arith, nat_tests)
rect_placed (d ∷ draws) s k new = grind (arith, nat_tests, rect_placed draws s k)

pub length_placed : (draws : List Sent) (s : Sent) → length (placed draws s) ≡ length draws + 1
length_placed [] s = refl
length_placed (d ∷ draws) s = grind (arith, nat_tests, length_placed draws s)

pub rect_without_above : (draws : List Sent) (k j n : ℕ) → Above n draws → rect_sent (without_sent draws k) j ≡ (if nat_eq j k then None else rect_sent draws j)
rect_without_above [] k j n above = grind (arith, nat_tests)
rect_without_above (s ∷ draws) k j n above =
    let absent = above_absent draws (s.sequence + 1) s.sequence above.1 (omega arith) in
    let rest = rect_without_above draws k j (s.sequence + 1) above.1 in
    grind (arith, nat_tests)

pub rect_without : (draws : List Sent) (k j : ℕ) → AreRising draws → rect_sent (without_sent draws k) j ≡ (if nat_eq j k then None else rect_sent draws j)
rect_without draws k j rising = rect_without_above draws k j 0 (rising_above draws 0 rising (λ i within. omega arith))

pub length_without : (draws : List Sent) (k : ℕ) → IsSome (rect_sent draws k) → length (without_sent draws k) + 1 ≡ length draws
length_without [] k found = grind arith
length_without (s ∷ draws) k found = grind (arith, nat_tests, length_without draws k)
