-- A table of connections by their numbers. This project's own.
use Rattle.std.specs.Prelude.{ℕ, ◌+◌, ◌≡◌, ◌≤◌, ◌<◌, Bool, true, false, Option, Some, None, List, [], ◌∷◌, map, slice_get, if◌then◌else◌}

-- a connection that is open, one that was taken out to be changed, and one that has ended
pub data Slot (T E : Type 0) : Type 0 where
  Open : T → Slot T E
  Away : Slot T E
  Ended : E → Slot T E

-- the connections by their numbers, and how many more can be put in without memory
pub record Table (T E : Type 0) : Type 0 where
  pub slots : List (Slot T E)
  pub room : ℕ

abbrev pub is_open : {T E : Type 0} → Slot T E → Bool
is_open (Open t) = true
is_open Away = false
is_open (Ended e) = false

abbrev pub is_away : {T E : Type 0} → Slot T E → Bool
is_away (Open t) = false
is_away Away = true
is_away (Ended e) = false

-- what is kept of an open connection
abbrev pub opened : {T E : Type 0} → Option (Slot T E) → Option T
opened None = None
opened (Some (Open t)) = Some t
opened (Some Away) = None
opened (Some (Ended e)) = None

-- how one that has ended did
abbrev pub ending : {T E : Type 0} → Option (Slot T E) → Option E
ending None = None
ending (Some (Open t)) = None
ending (Some Away) = None
ending (Some (Ended e)) = Some e

-- the connection with this number, where it is open
abbrev pub open_at : {T E : Type 0} → List (Slot T E) → ℕ → Option T
open_at slots k = opened (slice_get slots k)

-- how many are open
abbrev pub open_count : {T E : Type 0} → List (Slot T E) → ℕ
open_count [] = 0
open_count (slot ∷ slots) = (if is_open slot then 1 else 0) + open_count slots

-- the ends of the slots that have ended, in order; open ones and those that were taken out give none
abbrev pub ends_of : {T E : Type 0} → List (Slot T E) → List E
ends_of [] = []
ends_of (Open t ∷ slots) = ends_of slots
ends_of (Away ∷ slots) = ends_of slots
ends_of (Ended e ∷ slots) = e ∷ ends_of slots

-- where no slot is open and none was taken out, each is the end of its place
abbrev pub AllEnded : Type 0 → Type 0 → Type 0
AllEnded T E = (slots : List (Slot T E)) → open_count slots ≡ 0 → ((k : ℕ) → slice_get slots k ≡ Some Away → ⊥)
    → slots ≡ map Ended (ends_of slots)

-- none from the one number on to the other is open
abbrev pub NoOpenBetween : {T E : Type 0} → List (Slot T E) → ℕ → ℕ → Type 0
NoOpenBetween slots from to = (j : ℕ) → from ≤ j → j < to → open_at slots j ≡ None

-- the open connection of least number that is at least `from`
pub record IsNextOpen {T E : Type 0} (slots : List (Slot T E)) (from k : ℕ) : Type 0 where
  pub least : from ≤ k
  pub there : (t : T) × (open_at slots k ≡ Some t)
  pub none_before : NoOpenBetween slots from k

-- none from this number on is open
abbrev pub NoneFrom : {T E : Type 0} → List (Slot T E) → ℕ → Type 0
NoneFrom slots from = (j : ℕ) → from ≤ j → open_at slots j ≡ None
