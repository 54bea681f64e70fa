-- A list of one item.
use Rattle.std.proofs.Common.{◌≡◌, ℕ, zero, suc, ◌<◌, List, [], ◌∷◌, All, length, sym, subst, arith, get_or}

pub all_single : {A : Type 0} (P : A → Type 0) (x : A) (xs : List A) → xs ≡ x ∷ [] → P x → All P xs
all_single {A} P x xs is holds = subst (All P) (sym is) only
  where
    only : (k : ℕ) (d : A) → k < length (x ∷ []) → P (get_or (x ∷ []) k d)
    only zero d within = holds
    only (suc k) d within = absurd (omega arith)
