-- Where the table keeps what: open connections in a slab, and for each number its key there or its end.
use Rattle.std.specs.Prelude.{ℕ, ◌+◌, ◌≡◌, ◌≤◌, Bool, true, false, Option, Some, None, List, [], ◌∷◌, map, slice_get, if◌then◌else◌}
use Rattle.slab.specs.Slab.{Slab, get, slab_len, ContainsKey}
use Rattle.connection_table.specs.declared.place.Place.{Place}
use Rattle.connection_table.specs.declared.place.Place.TheVariants as P
use Rattle.connection_table.specs.Tables.{Slot, Open, Away, Ended}

-- the places by their numbers, and how many more can be put in without memory
pub record Listed (E : Type 0) : Type 0 where
  pub places : List (Place E)
  pub room : ℕ

-- the ends of the places that have ended, in order
abbrev pub ends_in : {E : Type 0} → List (Place E) → List E
ends_in [] = []
ends_in (P.Open key ∷ places) = ends_in places
ends_in (P.Away ∷ places) = ends_in places
ends_in (P.Ended e ∷ places) = e ∷ ends_in places

abbrev pub slot_with : {T E : Type 0} → Option T → Slot T E
slot_with None = Away
slot_with (Some t) = Open t

-- a place, as the table is seen
abbrev pub slot_of : {T E : Type 0} → Slab T → Place E → Slot T E
slot_of slab (P.Open key) = slot_with (get slab key)
slot_of slab P.Away = Away
slot_of slab (P.Ended e) = Ended e

abbrev pub slots_of : {T E : Type 0} → Slab T → List (Place E) → List (Slot T E)
slots_of slab places = map (slot_of slab) places

abbrev pub is_held : {E : Type 0} → Place E → Bool
is_held (P.Open key) = true
is_held P.Away = false
is_held (P.Ended e) = false

abbrev pub is_out : {E : Type 0} → Place E → Bool
is_out (P.Open key) = false
is_out P.Away = true
is_out (P.Ended e) = false

abbrev pub how_many : {A : Type 0} → (A → Bool) → List A → ℕ
how_many p [] = 0
how_many p (x ∷ xs) = (if p x then 1 else 0) + how_many p xs

-- the key of a place, where it has one
abbrev pub key_held : {E : Type 0} → Option (Place E) → Option ℕ
key_held None = None
key_held (Some (P.Open key)) = Some key
key_held (Some P.Away) = None
key_held (Some (P.Ended e)) = None

-- the place has this key
abbrev pub HasKey : {E : Type 0} → ℕ → Option (Place E) → Type 0
HasKey key None = ⊥
HasKey key (Some (P.Open k)) = k ≡ key
HasKey key (Some P.Away) = ⊥
HasKey key (Some (P.Ended e)) = ⊥

-- each key has a value, no two places have one key, as many values are kept as places have keys, and there is room for those
-- that were taken out
pub record IsTable {T E : Type 0} (slab : Slab T) (places : List (Place E)) (away : ℕ) : Type 0 where
  pub kept : (k key : ℕ) → HasKey key (slice_get places k) → ContainsKey slab key
  pub distinct : (j k key : ℕ) → HasKey key (slice_get places j) → HasKey key (slice_get places k) → j ≡ k
  pub counted : slab_len slab ≡ how_many is_held places
  pub out : away ≡ how_many is_out places
  pub spare : slab_len slab + away ≤ slab.capacity
