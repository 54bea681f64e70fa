-- The table's slots, as its slab and its places change.
use Rattle.std.proofs.Common.{◌≡◌, ◌≢◌, ℕ, zero, suc, ◌+◌, ◌≤◌, Bool, true, false, ◌⊎◌, inl, inr, List, [], ◌∷◌, ◌++◌, Option, Some, None, set, length, cond, refl, sym, ap, ◌∙◌, arith}
use Rattle.std.specs.Prelude.{slice_get, is_some}
use Rattle.std.specs.Option.{option_map}
use Rattle.std.proofs.lemmas.List.{map-append, map-set}
use Rattle.std.proofs.lemmas.Option.{slice_get-map}
use Rattle.slab.specs.Slab.{Slab, get, ContainsKey}
use Rattle.connection_table.specs.declared.place.Place.{Place}
use Rattle.connection_table.specs.declared.place.Place.TheVariants as P
use Rattle.connection_table.specs.Tables.{Slot, Away}
use Rattle.connection_table.specs.Places.{slot_with, slot_of, slots_of, HasKey, how_many}

module _ {T E : Type 0} where
  one_slot : (slab slab' : Slab T) (p : Place E) → ((key : ℕ) → HasKey key (Some p) → get slab' key ≡ get slab key) → slot_of slab' p ≡ slot_of slab p
  one_slot slab slab' (P.Open key) is = ap slot_with (is key refl)
  one_slot slab slab' P.Away is = refl
  one_slot slab slab' (P.Ended e) is = refl

  -- the same values under the keys of all places
  pub same_slots : (slab slab' : Slab T) (places : List (Place E)) → ((k key : ℕ) → HasKey key (slice_get places k) → get slab' key ≡ get slab key) → slots_of slab' places ≡ slots_of slab places
  same_slots slab slab' [] same = refl
  same_slots slab slab' (p ∷ places) same =
      ap (λ (s : Slot T E). s ∷ slots_of slab' places) (one_slot slab slab' p (λ key has. same 0 key has))
      ∙ ap (λ (ss : List (Slot T E)). slot_of slab p ∷ ss) (same_slots slab slab' places (λ k key has. same (suc k) key has))

  -- one place is another, and the same values under the keys of all others
  pub same_slots_but : (slab slab' : Slab T) (places : List (Place E)) (n : ℕ) (p : Place E) → ((k key : ℕ) → k ≢ n → HasKey key (slice_get places k) → get slab' key ≡ get slab key) → slot_of slab' p ≡ slot_of slab p
      → slots_of slab' (set places n p) ≡ set (slots_of slab places) n (slot_of slab p)
  same_slots_but slab slab' [] n p same here = refl
  same_slots_but slab slab' (q ∷ places) zero p same here =
      ap (λ (s : Slot T E). s ∷ slots_of slab' places) here
      ∙ ap (λ (ss : List (Slot T E)). slot_of slab p ∷ ss) (same_slots slab slab' places (λ k key has. same (suc k) key (λ no. cc no) has))
  same_slots_but slab slab' (q ∷ places) (suc n) p same here =
      ap (λ (s : Slot T E). s ∷ slots_of slab' (set places n p)) (one_slot slab slab' q (λ key has. same 0 key (λ no. cc no) has))
      ∙ ap (λ (ss : List (Slot T E)). slot_of slab q ∷ ss) (same_slots_but slab slab' places n p (λ k key apart has. same (suc k) key (λ no. apart (cc no)) has) here)

  pub slots_push : (slab : Slab T) (places : List (Place E)) (p : Place E) → slots_of slab (places ++ p ∷ []) ≡ slots_of slab places ++ slot_of slab p ∷ []
  slots_push slab places p = map-append (slot_of slab) places (p ∷ [])

  pub slots_set : (slab : Slab T) (places : List (Place E)) (n : ℕ) (p : Place E) → slots_of slab (set places n p) ≡ set (slots_of slab places) n (slot_of slab p)
  slots_set slab places n p = map-set (slot_of slab) places n p

  pub slot_at : (slab : Slab T) (places : List (Place E)) (n : ℕ) → slice_get (slots_of slab places) n ≡ option_map (slot_of slab) (slice_get places n)
  slot_at slab places n = slice_get-map (slot_of slab) places n

  -- a place whose slot was taken out is one that was taken out
  pub away_place : (slab : Slab T) (places : List (Place E)) (n : ℕ) → ((key : ℕ) → HasKey key (slice_get places n) → ContainsKey slab key) → slice_get (slots_of slab places) n ≡ Some Away → slice_get places n ≡ Some P.Away
  away_place slab places n kept is = go (slice_get places n) refl kept (sym (slot_at slab places n) ∙ is)
    where
      value : (o : Option T) → is_some o ≡ true → Some (slot_with {E = E} o) ≡ Some Away → ⊥
      value None some same = absurd (cc some)
      value (Some t) some same = absurd (cc same)

      go : (o : Option (Place E)) → slice_get places n ≡ o → ((key : ℕ) → HasKey key o → ContainsKey slab key) → option_map (slot_of slab) o ≡ Some Away → o ≡ Some P.Away
      go None at kept same = absurd (cc same)
      go (Some (P.Open key)) at kept same = absurd (value (get slab key) (kept key refl) same)
      go (Some P.Away) at kept same = refl
      go (Some (P.Ended e)) at kept same = absurd (cc same)

-- how many, once one was set, or came behind all
pub count_set : {A : Type 0} (p : A → Bool) (xs : List A) (n : ℕ) (old new : A) → slice_get xs n ≡ Some old → cond (p old) 1 0 + how_many p (set xs n new) ≡ cond (p new) 1 0 + how_many p xs
count_set p [] n old new is = absurd (cc is)
count_set p (x ∷ xs) zero old new is = let same : p x ≡ p old = ap p (let alike : x ≡ old = cc is in alike) in rw same (omega arith)
count_set p (x ∷ xs) (suc n) old new is = let later = count_set p xs n old new is in omega (arith, later)

pub count_most : {A : Type 0} (p : A → Bool) (xs : List A) → how_many p xs ≤ length xs
count_most p [] = omega arith
count_most p (x ∷ xs) = let later = count_most p xs in let one = at_most_one (p x) in omega (arith, later, one)
  where
    at_most_one : (b : Bool) → cond b 1 0 ≤ 1
    at_most_one true = omega arith
    at_most_one false = omega arith

pub count_push : {A : Type 0} (p : A → Bool) (xs : List A) (x : A) → how_many p (xs ++ x ∷ []) ≡ how_many p xs + cond (p x) 1 0
count_push p [] x = omega arith
count_push p (y ∷ ys) x = let later = count_push p ys x in omega (arith, later)

-- an item in the place of another, and one behind all
pub set_at : {A : Type 0} (xs : List A) (n k : ℕ) (new a : A) → slice_get (set xs n new) k ≡ Some a → ((k ≡ n) × (a ≡ new)) ⊎ ((k ≢ n) × (slice_get xs k ≡ Some a))
set_at [] n k new a is = absurd (cc is)
set_at (x ∷ xs) zero zero new a is = inl (refl, cc is)
set_at (x ∷ xs) zero (suc k) new a is = inr ((λ same. cc same), is)
set_at (x ∷ xs) (suc n) zero new a is = inr ((λ same. cc same), is)
set_at (x ∷ xs) (suc n) (suc k) new a is = go (set_at xs n k new a is)
  where
    go : ((k ≡ n) × (a ≡ new)) ⊎ ((k ≢ n) × (slice_get xs k ≡ Some a)) → ((suc k ≡ suc n) × (a ≡ new)) ⊎ ((suc k ≢ suc n) × (slice_get xs k ≡ Some a))
    go (inl here) = inl (ap suc here.0, here.1)
    go (inr there) = inr ((λ same. there.0 (cc same)), there.1)

pub push_at : {A : Type 0} (xs : List A) (k : ℕ) (new a : A) → slice_get (xs ++ new ∷ []) k ≡ Some a → ((k ≡ length xs) × (a ≡ new)) ⊎ (slice_get xs k ≡ Some a)
push_at [] zero new a is = inl (refl, cc is)
push_at [] (suc k) new a is = absurd (cc is)
push_at (x ∷ xs) zero new a is = inr is
push_at (x ∷ xs) (suc k) new a is = go (push_at xs k new a is)
  where
    go : ((k ≡ length xs) × (a ≡ new)) ⊎ (slice_get xs k ≡ Some a) → ((suc k ≡ suc (length xs)) × (a ≡ new)) ⊎ (slice_get xs k ≡ Some a)
    go (inl here) = inl (ap suc here.0, here.1)
    go (inr there) = inr there
