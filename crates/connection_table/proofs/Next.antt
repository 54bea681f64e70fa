-- The next open connection, and how many are open.
use Rattle.std.proofs.Common.{◌≡◌, ◌⊎◌, inl, inr, ℕ, zero, suc, ◌+◌, ◌≤◌, ◌<◌, Bool, true, false, List, [], ◌∷◌, Option, Some, None, length, cond, refl, sym, ap, subst, arith}
use Rattle.std.specs.Prelude.{slice_get, is_some, option_copied}
use Rattle.std.specs.Borrow.{Bor}
use Rattle.std.proofs.lemmas.Bool.{cases_lt}
use Rattle.slab.specs.Slab.{Slab, get}
use Rattle.connection_table.specs.declared.place.Place.{Place}
use Rattle.connection_table.specs.declared.place.Place.TheVariants as P
use Rattle.connection_table.specs.Tables.{Slot, is_open, open_at, open_count, IsNextOpen, NoneFrom, NoOpenBetween}
use Rattle.connection_table.specs.Places.{slot_with, slot_of, slots_of, is_held, how_many, HasKey}

abbrev as_one : Bool → ℕ
as_one b = cond b 1 0

pub not_open : {T : Type 0} (o : Option (Bor T)) (there : Option T) → option_copied o ≡ there → is_some o ≡ false → there ≡ None
not_open None there is none = sym is
not_open (Some t) there is none = absurd (cc none)

module _ {T E : Type 0} where
  pub none_yet : (slots : List (Slot T E)) (from : ℕ) → NoOpenBetween slots from from
  none_yet slots from j low high = absurd (omega (arith, low, high))

  pub one_further : (slots : List (Slot T E)) (from to : ℕ) → NoOpenBetween slots from to → open_at slots to ≡ None → NoOpenBetween slots from (to + 1)
  one_further slots from to none here j low high = go (cases_lt j to)
    where
      go : (j < to) ⊎ (to ≤ j) → open_at slots j ≡ None
      go (inl before) = none j low before
      go (inr at) = subst (λ (k : ℕ). open_at slots k ≡ None) (let same : to ≡ j = omega (arith, at, high) in same) here

  past_all : (slots : List (Slot T E)) (j : ℕ) → length slots ≤ j → open_at slots j ≡ None
  past_all [] j past = refl
  past_all (s ∷ slots) zero past = absurd (omega (arith, past))
  past_all (s ∷ slots) (suc j) past = past_all slots j (omega (arith, past))

  pub none_from : (slots : List (Slot T E)) (from to : ℕ) → NoOpenBetween slots from to → length slots ≤ to → NoneFrom slots from
  none_from slots from to none long j low = go (cases_lt j to)
    where
      go : (j < to) ⊎ (to ≤ j) → open_at slots j ≡ None
      go (inl before) = none j low before
      go (inr at) = past_all slots j (omega (arith, at, long))

  pub next_open : (slots : List (Slot T E)) (from k : ℕ) → from ≤ k → NoOpenBetween slots from k → (o : Option (Bor T)) → option_copied o ≡ open_at slots k → is_some o ≡ true → IsNextOpen slots from k
  next_open slots from k low none None is some = absurd (cc some)
  next_open slots from k low none (Some t) is some = record { least = low; there = (t.now, sym is); none_before = none }

  -- as many are open as places have keys
  pub held_count : (slab : Slab T) (places : List (Place E)) → ((k key : ℕ) → HasKey key (slice_get places k) → is_some (get slab key) ≡ true) → open_count (slots_of slab places) ≡ how_many is_held places
  held_count slab [] kept = refl
  held_count slab (p ∷ places) kept =
      let here = one p (λ key has. kept 0 key has) in let later = held_count slab places (λ k key has. kept (suc k) key has) in omega (arith, here, later)
    where
      there : (o : Option T) → is_some o ≡ true → is_open (slot_with {E = E} o) ≡ true
      there None some = absurd (cc some)
      there (Some t) some = refl

      one : (q : Place E) → ((key : ℕ) → HasKey key (Some q) → is_some (get slab key) ≡ true) → as_one (is_open (slot_of slab q)) ≡ as_one (is_held q)
      one (P.Open key) kept = ap as_one (there (get slab key) (kept key refl))
      one P.Away kept = refl
      one (P.Ended e) kept = refl
