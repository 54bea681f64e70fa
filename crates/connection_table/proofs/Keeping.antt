-- What the table keeps, as it changes.
use Rattle.std.proofs.Common.{◌≡◌, ◌≢◌, ◌⊎◌, inl, inr, ℕ, ◌+◌, ◌-◌, ◌≤◌, List, [], ◌∷◌, ◌++◌, Option, Some, None, set, length, refl, sym, ap, ◌∙◌, subst, arith}
use Rattle.std.specs.Prelude.{slice_get, is_some}
use Rattle.std.specs.Option.{option_map}
use Rattle.std.proofs.lemmas.List.{length-set}
use Rattle.slab.specs.Slab.{Slab, get, slab_len, ContainsKey, Updates}
use Rattle.connection_table.specs.declared.place.Place.{Place}
use Rattle.connection_table.specs.declared.place.Place.TheVariants as P
use Rattle.connection_table.specs.Tables.{Slot, Open, Away, Ended, opened, open_at}
use Rattle.connection_table.specs.Places.{slot_with, slot_of, slots_of, is_held, is_out, key_held, HasKey, IsTable}
use Rattle.connection_table.proofs.Slots.{same_slots, same_slots_but, slot_at, slots_push, slots_set, away_place, count_set, count_push, count_most, set_at, push_at}

-- a place with this key is one
key_place : {E : Type 0} (key : ℕ) (o : Option (Place E)) → HasKey key o → o ≡ Some (P.Open key)
key_place key None has = absurd has
key_place key (Some (P.Open k)) has = ap (λ n. Some (P.Open n)) has
key_place key (Some P.Away) has = absurd has
key_place key (Some (P.Ended e)) has = absurd has

pub held_place : {E : Type 0} (key : ℕ) (o : Option (Place E)) → key_held o ≡ Some key → o ≡ Some (P.Open key)
held_place key None has = absurd (cc has)
held_place key (Some (P.Open k)) has = ap (λ n. Some (P.Open n)) (let same : k ≡ key = cc has in same)
held_place key (Some P.Away) has = absurd (cc has)
held_place key (Some (P.Ended e)) has = absurd (cc has)

pub place_key : {E : Type 0} (key : ℕ) (o : Option (Place E)) → o ≡ Some (P.Open key) → HasKey key o
place_key key o is = subst (HasKey key) (sym is) refl

abbrev key_of : {E : Type 0} → Place E → ℕ
key_of (P.Open key) = key
key_of P.Away = 0
key_of (P.Ended e) = 0

-- two places with keys are one
abbrev Same : (E : Type 0) → ℕ → ℕ → Type 0
Same E other key = let one : Place E = P.Open other in let two : Place E = P.Open key in one ≡ two

-- a place that has a key was taken out, which can't be
abbrev OpenIsAway : (E : Type 0) → ℕ → Type 0
OpenIsAway E key = let one : Place E = P.Open key in let two : Place E = P.Away in one ≡ two

module _ {T E : Type 0} where
  -- no place has a key that has no value
  vacant_apart : (slab : Slab T) (places : List (Place E)) (away key : ℕ) → IsTable slab places away → get slab key ≡ None → (k other : ℕ) → HasKey other (slice_get places k) → other ≢ key
  vacant_apart slab places away key table none k other has = λ same. absurd (let there = table.kept k other has in let gone = ap (λ i. is_some (get slab i)) same ∙ ap is_some none in cc (there, gone))

  pub pushed_slots : (slab slab' : Slab T) (places : List (Place E)) (away key : ℕ) (value : T) → IsTable slab places away → get slab key ≡ None → Updates slab slab' key (Some value)
      → slots_of slab' (places ++ P.Open key ∷ []) ≡ slots_of slab places ++ Open value ∷ []
  pushed_slots slab slab' places away key value table none updates =
      slots_push slab' places (P.Open key)
      ∙ ap (λ (ss : List (Slot T E)). ss ++ slot_with (get slab' key) ∷ []) (same_slots slab slab' places (λ k other has. updates.others other (vacant_apart slab places away key table none k other has)))
      ∙ ap (λ (o : Option T). slots_of slab places ++ slot_with o ∷ []) updates.changed

  pub pushed_table : (slab slab' : Slab T) (places : List (Place E)) (away key : ℕ) (value : T) → IsTable slab places away → get slab key ≡ None → Updates slab slab' key (Some value)
      → slab_len slab' ≡ slab_len slab + 1 → slab_len slab + away + 1 ≤ slab'.capacity → IsTable slab' (places ++ P.Open key ∷ []) away
  pushed_table slab slab' places away key value table none updates longer room = record {
    kept = λ k other has. kept k other (push_at places k (P.Open key) (P.Open other) (key_place other _ has));
    distinct = λ j k other one two. distinct j k other (push_at places j (P.Open key) (P.Open other) (key_place other _ one)) (push_at places k (P.Open key) (P.Open other) (key_place other _ two));
    counted = let was = table.counted in let now = count_push is_held places (P.Open key) in omega (arith, longer, was, now);
    out = let was = table.out in let now = count_push is_out places (P.Open key) in omega (arith, was, now);
    spare = omega (arith, longer, room);
  }
    where
      own : (other : ℕ) → Same E other key → other ≡ key
      own other same = ap key_of same

      kept : (k other : ℕ) → ((k ≡ length places) × (Same E other key)) ⊎ (slice_get places k ≡ Some (P.Open other)) → ContainsKey slab' other
      kept k other (inl new) = subst (ContainsKey slab') (sym (own other new.1)) (ap is_some updates.changed)
      kept k other (inr old) =
          let has = place_key other (slice_get places k) old in
          ap is_some (updates.others other (vacant_apart slab places away key table none k other has)) ∙ table.kept k other has

      distinct : (j k other : ℕ) → ((j ≡ length places) × (Same E other key)) ⊎ (slice_get places j ≡ Some (P.Open other))
          → ((k ≡ length places) × (Same E other key)) ⊎ (slice_get places k ≡ Some (P.Open other)) → j ≡ k
      distinct j k other (inl one) (inl two) = one.0 ∙ sym two.0
      distinct j k other (inl one) (inr two) = absurd (vacant_apart slab places away key table none k other (place_key other _ two) (own other one.1))
      distinct j k other (inr one) (inl two) = absurd (vacant_apart slab places away key table none j other (place_key other _ one) (own other two.1))
      distinct j k other (inr one) (inr two) = table.distinct j k other (place_key other _ one) (place_key other _ two)

  -- a place that was taken out
  pub is_out_place : (slab : Slab T) (places : List (Place E)) (away n : ℕ) → IsTable slab places away → slice_get (slots_of slab places) n ≡ Some Away → slice_get places n ≡ Some P.Away
  is_out_place slab places away n table is = away_place slab places n (λ key has. table.kept n key has) is

  -- seen from the slots
  pub out_at : (slab : Slab T) (places : List (Place E)) (away n : ℕ) (slots : List (Slot T E)) → IsTable slab places away → slots_of slab places ≡ slots → slice_get slots n ≡ Some Away → slice_get places n ≡ Some P.Away
  out_at slab places away n slots table same is = is_out_place slab places away n table (ap (λ (ss : List (Slot T E)). slice_get ss n) same ∙ is)

  pub some_out : (slab : Slab T) (places : List (Place E)) (away n : ℕ) → IsTable slab places away → slice_get places n ≡ Some P.Away → 1 ≤ away
  some_out slab places away n table is = let was = table.out in let one = count_set is_out places n P.Away (P.Open 0) is in omega (arith, was, one)

  -- it has ended
  pub ended_slots : (slab : Slab T) (places : List (Place E)) (n : ℕ) (e : E) → slots_of slab (set places n (P.Ended e)) ≡ set (slots_of slab places) n (Ended e)
  ended_slots slab places n e = slots_set slab places n (P.Ended e)

  pub ended_table : (slab : Slab T) (places : List (Place E)) (away n : ℕ) (e : E) → IsTable slab places away → slice_get places n ≡ Some P.Away → IsTable slab (set places n (P.Ended e)) (away - 1)
  ended_table slab places away n e table is = record {
    kept = λ k key has. table.kept k key (was k key has);
    distinct = λ j k key one two. table.distinct j k key (was j key one) (was k key two);
    counted = let before = table.counted in let held = count_set is_held places n P.Away (P.Ended e) is in omega (arith, before, held);
    out = let before = table.out in let gone = count_set is_out places n P.Away (P.Ended e) is in omega (arith, before, gone);
    spare = let before = table.spare in omega (arith, before);
  }
    where
      was : (k key : ℕ) → HasKey key (slice_get (set places n (P.Ended e)) k) → HasKey key (slice_get places k)
      was k key has = go (set_at places n k (P.Ended e) (P.Open key) (key_place key _ has))
        where
          go : ((k ≡ n) × (P.Open key ≡ P.Ended e)) ⊎ ((k ≢ n) × (slice_get places k ≡ Some (P.Open key))) → HasKey key (slice_get places k)
          go (inl here) = absurd (cc here.1)
          go (inr there) = place_key key _ there.1

  -- it was put back
  pub back_slots : (slab slab' : Slab T) (places : List (Place E)) (away n key : ℕ) (value : T) → IsTable slab places away → get slab key ≡ None → Updates slab slab' key (Some value)
      → slots_of slab' (set places n (P.Open key)) ≡ set (slots_of slab places) n (Open value)
  back_slots slab slab' places away n key value table none updates =
      slots_set slab' places n (P.Open key)
      ∙ ap (λ (ss : List (Slot T E)). set ss n (slot_with (get slab' key))) (same_slots slab slab' places (λ k other has. updates.others other (vacant_apart slab places away key table none k other has)))
      ∙ ap (λ (o : Option T). set (slots_of slab places) n (slot_with o)) updates.changed

  pub back_table : (slab slab' : Slab T) (places : List (Place E)) (away n key : ℕ) (value : T) → IsTable slab places away → slice_get places n ≡ Some P.Away → get slab key ≡ None → Updates slab slab' key (Some value)
      → slab_len slab' ≡ slab_len slab + 1 → slab'.capacity ≡ slab.capacity → IsTable slab' (set places n (P.Open key)) (away - 1)
  back_table slab slab' places away n key value table is none updates longer same = record {
    kept = λ k other has. kept k other (set_at places n k (P.Open key) (P.Open other) (key_place other _ has));
    distinct = λ j k other one two. distinct j k other (set_at places n j (P.Open key) (P.Open other) (key_place other _ one)) (set_at places n k (P.Open key) (P.Open other) (key_place other _ two));
    counted = let before = table.counted in let held = count_set is_held places n P.Away (P.Open key) is in omega (arith, before, held, longer);
    out = let before = table.out in let gone = count_set is_out places n P.Away (P.Open key) is in omega (arith, before, gone);
    spare = let before = table.spare in let some = some_out slab places away n table is in omega (arith, before, longer, same, some);
  }
    where
      own : (other : ℕ) → Same E other key → other ≡ key
      own other alike = ap key_of alike

      kept : (k other : ℕ) → ((k ≡ n) × (Same E other key)) ⊎ ((k ≢ n) × (slice_get places k ≡ Some (P.Open other))) → ContainsKey slab' other
      kept k other (inl new) = subst (ContainsKey slab') (sym (own other new.1)) (ap is_some updates.changed)
      kept k other (inr old) =
          let has = place_key other (slice_get places k) old.1 in
          ap is_some (updates.others other (vacant_apart slab places away key table none k other has)) ∙ table.kept k other has

      distinct : (j k other : ℕ) → ((j ≡ n) × (Same E other key)) ⊎ ((j ≢ n) × (slice_get places j ≡ Some (P.Open other)))
          → ((k ≡ n) × (Same E other key)) ⊎ ((k ≢ n) × (slice_get places k ≡ Some (P.Open other))) → j ≡ k
      distinct j k other (inl one) (inl two) = one.0 ∙ sym two.0
      distinct j k other (inl one) (inr two) = absurd (vacant_apart slab places away key table none k other (place_key other _ two.1) (own other one.1))
      distinct j k other (inr one) (inl two) = absurd (vacant_apart slab places away key table none j other (place_key other _ one.1) (own other two.1))
      distinct j k other (inr one) (inr two) = table.distinct j k other (place_key other _ one.1) (place_key other _ two.1)

  -- it was taken out
  taken_apart : (slab : Slab T) (places : List (Place E)) (away n key k other : ℕ) → IsTable slab places away → slice_get places n ≡ Some (P.Open key) → k ≢ n → HasKey other (slice_get places k) → other ≢ key
  taken_apart slab places away n key k other table is apart has = λ same. apart (table.distinct k n other has (place_key other _ (is ∙ ap (λ i. Some (P.Open i)) (sym same))))

  pub away_slots : (slab slab' : Slab T) (places : List (Place E)) (away n key : ℕ) → IsTable slab places away → slice_get places n ≡ Some (P.Open key) → Updates slab slab' key None
      → slots_of slab' (set places n P.Away) ≡ set (slots_of slab places) n Away
  away_slots slab slab' places away n key table is updates = same_slots_but slab slab' places n P.Away (λ k other apart has. updates.others other (taken_apart slab places away n key k other table is apart has)) refl

  pub one_more_out : (slab : Slab T) (places : List (Place E)) (away n key : ℕ) → IsTable slab places away → slice_get places n ≡ Some (P.Open key) → away + 1 ≤ length places
  one_more_out slab places away n key table is =
      let most = count_most is_out (set places n P.Away) in let gone = count_set is_out places n (P.Open key) P.Away is in let same = length-set places n P.Away in let was = table.out in omega (arith, most, gone, same, was)

  pub away_table : (slab slab' : Slab T) (places : List (Place E)) (away n key : ℕ) → IsTable slab places away → slice_get places n ≡ Some (P.Open key) → Updates slab slab' key None
      → slab_len slab' + 1 ≡ slab_len slab → slab'.capacity ≡ slab.capacity → IsTable slab' (set places n P.Away) (away + 1)
  away_table slab slab' places away n key table is updates shorter same = record {
    kept = λ k other has. let old = was k other has in ap is_some (updates.others other (taken_apart slab places away n key k other table is old.0 old.1)) ∙ table.kept k other old.1;
    distinct = λ j k other one two. table.distinct j k other (was j other one).1 (was k other two).1;
    counted = let before = table.counted in let held = count_set is_held places n (P.Open key) P.Away is in omega (arith, before, held, shorter);
    out = let before = table.out in let gone = count_set is_out places n (P.Open key) P.Away is in omega (arith, before, gone);
    spare = let before = table.spare in omega (arith, before, shorter, same);
  }
    where
      was : (k other : ℕ) → HasKey other (slice_get (set places n P.Away) k) → (k ≢ n) × HasKey other (slice_get places k)
      was k other has = go (set_at places n k P.Away (P.Open other) (key_place other _ has))
        where
          go : ((k ≡ n) × (OpenIsAway E other)) ⊎ ((k ≢ n) × (slice_get places k ≡ Some (P.Open other))) → (k ≢ n) × HasKey other (slice_get places k)
          go (inl here) = absurd (cc here.1)
          go (inr there) = (there.0, place_key other _ there.1)

  -- an open place's value, seen from the slots
  pub value_at : (slab : Slab T) (places : List (Place E)) (n key : ℕ) (slots : List (Slot T E)) → slice_get places n ≡ Some (P.Open key) → slots_of slab places ≡ slots → open_at slots n ≡ get slab key
  value_at slab places n key slots is same =
      ap (λ (ss : List (Slot T E)). opened (slice_get ss n)) (sym same) ∙ ap opened (slot_at slab places n ∙ ap (option_map (slot_of slab)) is) ∙ opened_with (get slab key)
    where
      opened_with : (o : Option T) → opened (Some (slot_with {E = E} o)) ≡ o
      opened_with None = refl
      opened_with (Some t) = refl

  -- more room
  pub wider_table : (slab slab' : Slab T) (places : List (Place E)) (away : ℕ) → IsTable slab places away → slab' ≡ record slab { capacity = slab'.capacity } → slab.capacity ≤ slab'.capacity → IsTable slab' places away
  wider_table slab slab' places away table same more = subst (λ s. IsTable s places away) (sym same) (record {
    kept = table.kept;
    distinct = table.distinct;
    counted = table.counted;
    out = table.out;
    spare = let before = table.spare in omega (arith, before, more);
  })
