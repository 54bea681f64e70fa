-- Lists that grow by what is taken of another, one at a time.
use Rattle.std.proofs.Common.{◌≡◌, ℕ, zero, suc, ◌+◌, ◌<◌, List, [], ◌∷◌, ◌++◌, length, get_or, take, map, ap, ◌∙◌, sym, arith, add-one}

pub map_more : {A B : Type 0} (f : A → B) (xs : List A) (i : ℕ) (x : A) → i < length xs → x ≡ get_or xs i x → map f (take i xs) ++ f x ∷ [] ≡ map f (take (i + 1) xs)
map_more f xs i x within is = more f xs i x within is ∙ ap (λ n. map f (take n xs)) (sym (add-one i))
  where
    more : {A B : Type 0} (f : A → B) (xs : List A) (i : ℕ) (x : A) → i < length xs → x ≡ get_or xs i x → map f (take i xs) ++ f x ∷ [] ≡ map f (take (suc i) xs)
    more f [] i x within is = absurd (omega (arith, within))
    more f (y ∷ xs) zero x within is = ap (λ z. f z ∷ []) is
    more f (y ∷ xs) (suc i) x within is = ap (λ zs. f y ∷ zs) (more f xs i x (omega (arith, within)) is)
