-- Slots by their places: one is another, one more, and the first ones changed.
use Rattle.std.proofs.Common.{◌≡◌, ◌≢◌, ℕ, zero, suc, ◌+◌, ◌<◌, ◌≤◌, Bool, true, false, ◌⊎◌, inl, inr, List, [], ◌∷◌, ◌++◌, Option, Some, None, set, length, cond, refl, sym, ap, ◌∙◌, arith}
use Rattle.std.specs.Prelude.{slice_get}
use Rattle.connection_table.specs.Tables.{Slot, Open, Away, Ended, is_open, opened, open_at, open_count}
use Rattle.session_steps.specs.Slots.{change_first}

some_same : {A : Type 0} (a b : A) → Some a ≡ Some b → a ≡ b
some_same a b same = cc same

-- an item in the place of another, and one behind all
pub set_at : {A : Type 0} (xs : List A) (n k : ℕ) (new a : A) → slice_get (set xs n new) k ≡ Some a → ((k ≡ n) × (a ≡ new)) ⊎ ((k ≢ n) × (slice_get xs k ≡ Some a))
set_at [] n k new a is = absurd (cc is)
set_at (x ∷ xs) zero zero new a is = inl (refl, cc is)
set_at (x ∷ xs) zero (suc k) new a is = inr ((λ same. cc same), is)
set_at (x ∷ xs) (suc n) zero new a is = inr ((λ same. cc same), is)
set_at (x ∷ xs) (suc n) (suc k) new a is = go (set_at xs n k new a is)
  where
    go : ((k ≡ n) × (a ≡ new)) ⊎ ((k ≢ n) × (slice_get xs k ≡ Some a)) → ((suc k ≡ suc n) × (a ≡ new)) ⊎ ((suc k ≢ suc n) × (slice_get xs k ≡ Some a))
    go (inl here) = inl (ap suc here.0, here.1)
    go (inr there) = inr ((λ same. there.0 (cc same)), there.1)

pub set_same : {A : Type 0} (xs : List A) (k : ℕ) (a : A) → slice_get xs k ≡ Some a → set xs k a ≡ xs
set_same [] k a is = refl
set_same (x ∷ xs) zero a is = ap (λ y. y ∷ xs) (some_same a x (sym is))
set_same (x ∷ xs) (suc k) a is = ap (λ ys. x ∷ ys) (set_same xs k a is)

pub push_at : {A : Type 0} (xs : List A) (k : ℕ) (new a : A) → slice_get (xs ++ new ∷ []) k ≡ Some a → ((k ≡ length xs) × (a ≡ new)) ⊎ ((k < length xs) × (slice_get xs k ≡ Some a))
push_at [] zero new a is = inl (refl, cc is)
push_at [] (suc k) new a is = absurd (cc is)
push_at (x ∷ xs) zero new a is = inr (omega arith, is)
push_at (x ∷ xs) (suc k) new a is = go (push_at xs k new a is)
  where
    go : ((k ≡ length xs) × (a ≡ new)) ⊎ ((k < length xs) × (slice_get xs k ≡ Some a)) → ((suc k ≡ suc (length xs)) × (a ≡ new)) ⊎ ((suc k < suc (length xs)) × (slice_get xs k ≡ Some a))
    go (inl here) = inl (ap suc here.0, here.1)
    go (inr there) = let low = there.0 in inr (omega (arith, low), there.1)

pub get_front : {A : Type 0} (xs ys : List A) (k : ℕ) (a : A) → slice_get xs k ≡ Some a → slice_get (xs ++ ys) k ≡ Some a
get_front [] ys k a is = absurd (cc is)
get_front (x ∷ xs) ys zero a is = is
get_front (x ∷ xs) ys (suc k) a is = get_front xs ys k a is

pub set_keeps : {A : Type 0} (xs : List A) (n k : ℕ) (new a : A) → k ≢ n → slice_get xs k ≡ Some a → slice_get (set xs n new) k ≡ Some a
set_keeps [] n k new a apart is = absurd (cc is)
set_keeps (x ∷ xs) zero zero new a apart is = absurd (apart refl)
set_keeps (x ∷ xs) zero (suc k) new a apart is = is
set_keeps (x ∷ xs) (suc n) zero new a apart is = is
set_keeps (x ∷ xs) (suc n) (suc k) new a apart is = set_keeps xs n k new a (λ same. apart (ap suc same)) is

-- the first ones changed
pub first_long : {A : Type 0} (change : A → A) (n : ℕ) (xs : List A) → length (change_first change n xs) ≡ length xs
first_long change zero xs = refl
first_long change (suc n) [] = refl
first_long change (suc n) (x ∷ xs) = ap suc (first_long change n xs)

pub first_at : {A : Type 0} (change : A → A) (n : ℕ) (xs : List A) (k : ℕ) (a : A) → slice_get (change_first change n xs) k ≡ Some a
    → ((k < n) × ((b : A) × (slice_get xs k ≡ Some b) × (a ≡ change b))) ⊎ (slice_get xs k ≡ Some a)
first_at change zero xs k a is = inr is
first_at change (suc n) [] k a is = absurd (cc is)
first_at change (suc n) (x ∷ xs) zero a is = inl (omega arith, (x, refl, cc is))
first_at change (suc n) (x ∷ xs) (suc k) a is = go (first_at change n xs k a is)
  where
    go : ((k < n) × ((b : _) × (slice_get xs k ≡ Some b) × (a ≡ change b))) ⊎ (slice_get xs k ≡ Some a) → ((suc k < suc n) × ((b : _) × (slice_get xs k ≡ Some b) × (a ≡ change b))) ⊎ (slice_get xs k ≡ Some a)
    go (inl early) = let low = early.0 in inl (omega (arith, low), early.1)
    go (inr late) = inr late

pub first_fixed : {A : Type 0} (change : A → A) (n : ℕ) (xs : List A) (k : ℕ) (a : A) → change a ≡ a → slice_get xs k ≡ Some a → slice_get (change_first change n xs) k ≡ Some a
first_fixed change zero xs k a fixed is = is
first_fixed change (suc n) [] k a fixed is = absurd (cc is)
first_fixed change (suc n) (x ∷ xs) zero a fixed is = ap (λ y. Some (change y)) (some_same x a is) ∙ ap (λ y. Some y) fixed
first_fixed change (suc n) (x ∷ xs) (suc k) a fixed is = first_fixed change n xs k a fixed is

pub first_behind : {A : Type 0} (change : A → A) (n : ℕ) (xs : List A) (k : ℕ) → n ≤ k → slice_get (change_first change n xs) k ≡ slice_get xs k
first_behind change zero xs k low = refl
first_behind change (suc n) [] k low = refl
first_behind change (suc n) (x ∷ xs) zero low = absurd (omega (arith, low))
first_behind change (suc n) (x ∷ xs) (suc k) low = first_behind change n xs k (omega (arith, low))

at_most_one : (b : Bool) → cond b 1 0 ≤ 1
at_most_one true = omega arith
at_most_one false = omega arith

module _ {T E : Type 0} where
  pub open_slot : (slots : List (Slot T E)) (k : ℕ) (t : T) → open_at slots k ≡ Some t → slice_get slots k ≡ Some (Open t)
  open_slot slots k t is = go (slice_get slots k) is
    where
      go : (o : Option (Slot T E)) → opened o ≡ Some t → o ≡ Some (Open t)
      go None is = absurd (cc is)
      go (Some (Open s)) is = ap (λ (u : T). let slot : Slot T E = Open u in Some slot) (some_same s t is)
      go (Some Away) is = absurd (cc is)
      go (Some (Ended e)) is = absurd (cc is)

  -- how many are open, once one more came, or an open one was set
  pub open_push : (slots : List (Slot T E)) (t : T) → open_count (slots ++ Open t ∷ []) ≡ open_count slots + 1
  open_push [] t = omega arith
  open_push (s ∷ slots) t = let later = open_push slots t in omega (arith, later)

  pub open_set : (slots : List (Slot T E)) (k : ℕ) (t : T) (slot : Slot T E) → slice_get slots k ≡ Some (Open t) → open_count (set slots k slot) ≤ open_count slots
  open_set [] k t slot is = absurd (cc is)
  open_set (s ∷ slots) zero t slot is = let one = at_most_one (is_open slot) in let here : is_open s ≡ true = ap is_open (some_same s (Open t) is) in rw here (omega (arith, one))
  open_set (s ∷ slots) (suc k) t slot is = let later = open_set slots k t slot is in omega (arith, later)

  -- where no change opens one
  pub open_first : (change : Slot T E → Slot T E) → ((s : Slot T E) → is_open s ≡ false → is_open (change s) ≡ false) → (n : ℕ) (slots : List (Slot T E)) → open_count (change_first change n slots) ≤ open_count slots
  open_first change closes zero slots = omega arith
  open_first change closes (suc n) [] = omega arith
  open_first change closes (suc n) (s ∷ slots) = let later = open_first change closes n slots in let here = less (is_open s) (is_open (change s)) (closes s) in omega (arith, later, here)
    where
      less : (b b' : Bool) → (b ≡ false → b' ≡ false) → cond b' 1 0 ≤ cond b 1 0
      less true b' implies = at_most_one b'
      less false b' implies = rw (implies refl) (omega arith)
