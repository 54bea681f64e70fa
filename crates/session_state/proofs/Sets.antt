-- Lists in which an item is set twice, is among the first ones that change, or comes behind all others.
use Rattle.std.proofs.Common.{◌≡◌, ◌≢◌, ℕ, zero, suc, ◌<◌, Some, List, [], ◌∷◌, ◌++◌, set, length, refl, sym, ap, arith}
use Rattle.std.specs.Prelude.{slice_get}
use Rattle.session_steps.specs.Slots.{change_first}

pub set_twice : {A : Type 0} (xs : List A) (n : ℕ) (a b : A) → set (set xs n a) n b ≡ set xs n b
set_twice [] n a b = refl
set_twice (x ∷ xs) zero a b = refl
set_twice (x ∷ xs) (suc n) a b = ap (λ ys. x ∷ ys) (set_twice xs n a b)

pub set_there : {A : Type 0} (xs : List A) (n : ℕ) (a : A) → n < length xs → slice_get (set xs n a) n ≡ Some a
set_there [] n a low = absurd (omega (arith, low))
set_there (x ∷ xs) zero a low = refl
set_there (x ∷ xs) (suc n) a low = set_there xs n a (omega (arith, low))

pub set_same : {A : Type 0} (xs : List A) (n : ℕ) (a : A) → slice_get xs n ≡ Some a → set xs n a ≡ xs
set_same [] n a is = refl
set_same (x ∷ xs) zero a is = ap (λ y. y ∷ xs) (let same : a ≡ x = sym (cc is) in same)
set_same (x ∷ xs) (suc n) a is = ap (λ ys. x ∷ ys) (set_same xs n a is)

-- an item behind those that change
pub first_set : {A : Type 0} (change : A → A) (n : ℕ) (xs : List A) (a b : A) → set (change_first change n (set xs n a)) n b ≡ set (change_first change n xs) n b
first_set change zero xs a b = set_twice xs 0 a b
first_set change (suc n) [] a b = refl
first_set change (suc n) (x ∷ xs) a b = ap (λ ys. change x ∷ ys) (first_set change n xs a b)

-- one more of them changes
pub first_more : {A : Type 0} (change : A → A) (n : ℕ) (xs : List A) (x : A) → slice_get xs n ≡ Some x → change_first change (suc n) xs ≡ set (change_first change n xs) n (change x)
first_more change n [] x is = absurd (cc is)
first_more change zero (y ∷ xs) x is = ap (λ z. change z ∷ xs) (let same : y ≡ x = cc is in same)
first_more change (suc n) (y ∷ xs) x is = ap (λ ys. change y ∷ ys) (first_more change n xs x is)

pub first_there : {A : Type 0} (change : A → A) (n : ℕ) (xs : List A) → slice_get (change_first change n xs) n ≡ slice_get xs n
first_there change zero xs = refl
first_there change (suc n) [] = refl
first_there change (suc n) (x ∷ xs) = first_there change n xs

pub append_last : {A : Type 0} (xs : List A) (x : A) → slice_get (xs ++ x ∷ []) (length xs) ≡ Some x
append_last [] x = refl
append_last (y ∷ xs) x = append_last xs x

pub append_other : {A : Type 0} (xs : List A) (x : A) (j : ℕ) → j ≢ length xs → slice_get (xs ++ x ∷ []) j ≡ slice_get xs j
append_other [] x zero apart = absurd (apart refl)
append_other [] x (suc j) apart = refl
append_other (y ∷ xs) x zero apart = refl
append_other (y ∷ xs) x (suc j) apart = append_other xs x j (λ same. apart (ap suc same))

pub append_long : {A : Type 0} (xs : List A) (x : A) → length (xs ++ x ∷ []) ≡ suc (length xs)
append_long [] x = refl
append_long (y ∷ xs) x = ap suc (append_long xs x)
