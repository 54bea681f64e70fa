-- One place of a list was written, or one item was put at its end.
use Rattle.std.proofs.Common.{◌≡◌, ◌≢◌, ℕ, ◌<◌, zero, suc, List, [], ◌∷◌, ◌++◌, length, Some, refl, sym, ap, arith, set, get_or}
use Rattle.std.specs.Prelude.{slice_get}

pub slice_get-set_same : {A : Type 0} (xs : List A) (k : ℕ) (x : A) → k < length xs → slice_get (set xs k x) k ≡ Some x
slice_get-set_same [] k x within = absurd (omega arith)
slice_get-set_same (y ∷ xs) zero x within = refl
slice_get-set_same (y ∷ xs) (suc k) x within = slice_get-set_same xs k x (omega arith)

pub slice_get-set_other : {A : Type 0} (xs : List A) (k : ℕ) (x : A) (j : ℕ) → j ≢ k → slice_get (set xs k x) j ≡ slice_get xs j
slice_get-set_other [] k x j other = refl
slice_get-set_other (y ∷ xs) zero x zero other = absurd (other refl)
slice_get-set_other (y ∷ xs) zero x (suc j) other = refl
slice_get-set_other (y ∷ xs) (suc k) x zero other = refl
slice_get-set_other (y ∷ xs) (suc k) x (suc j) other = slice_get-set_other xs k x j (λ same. other (ap suc same))

pub slice_get_here : {A : Type 0} (xs : List A) (k : ℕ) (x : A) → k < length xs → x ≡ get_or xs k x → slice_get xs k ≡ Some x
slice_get_here [] k x within here = absurd (omega arith)
slice_get_here (y ∷ xs) zero x within here = ap Some (sym here)
slice_get_here (y ∷ xs) (suc k) x within here = slice_get_here xs k x (omega arith) here

pub slice_get-append_last : {A : Type 0} (xs : List A) (x : A) → slice_get (xs ++ x ∷ []) (length xs) ≡ Some x
slice_get-append_last [] x = refl
slice_get-append_last (y ∷ xs) x = slice_get-append_last xs x

pub slice_get-append_other : {A : Type 0} (xs : List A) (x : A) (j : ℕ) → j ≢ length xs → slice_get (xs ++ x ∷ []) j ≡ slice_get xs j
slice_get-append_other [] x zero other = absurd (other refl)
slice_get-append_other [] x (suc j) other = refl
slice_get-append_other (y ∷ xs) x zero other = refl
slice_get-append_other (y ∷ xs) x (suc j) other = slice_get-append_other xs x j (λ same. other (ap suc same))
