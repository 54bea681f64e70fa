-- What taking a draw's place and removing a draw come to.
use Rattle.std.specs.Prelude.{ℕ, ◌≡◌, ◌+◌, List, [], ◌∷◌, ◌++◌, length, Some, None, IsSome, nat_eq, if◌then◌else◌}
use Rattle.delivery_model.specs.Window.{Sent}
use Rattle.delivery_model.specs.Events.{rect_sent, without_sent}
use Rattle.ack_tracker.specs.Unacknowledged.{placed}
use Rattle.ack_tracker.specs.Places.{AreRising, AllBelow}

abbrev pub GreatestGoesLast : Type 0
GreatestGoesLast = (draws : List Sent) (s : Sent) → AllBelow s.sequence draws → placed draws s ≡ draws ++ s ∷ []

-- a draw is found by its number, and every other as before
abbrev pub FoundByNumber : Type 0
FoundByNumber =
    (draws : List Sent) (s : Sent) (k : ℕ) → rect_sent draws s.sequence ≡ None
    → rect_sent (placed draws s) k ≡ (if nat_eq k s.sequence then Some s.rect else rect_sent draws k)

abbrev pub OneMore : Type 0
OneMore = (draws : List Sent) (s : Sent) → length (placed draws s) ≡ length draws + 1

-- where numbers rise a draw that is removed is found no more, and every other as before
abbrev pub RemovedByNumber : Type 0
RemovedByNumber =
    (draws : List Sent) (k j : ℕ) → AreRising draws
    → rect_sent (without_sent draws k) j ≡ (if nat_eq j k then None else rect_sent draws j)

abbrev pub OneFewer : Type 0
OneFewer = (draws : List Sent) (k : ℕ) → IsSome (rect_sent draws k) → length (without_sent draws k) + 1 ≡ length draws
