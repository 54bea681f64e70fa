-- Words that are taken one by one.
use Rattle.std.proofs.Common.{◌≡◌, ℕ, zero, suc, List, [], ◌∷◌, length, drop, Option, Some, None, refl, sym, ap, ◌∙◌, arith}
use Rattle.std.specs.declared.vec.IntoIter.{IntoIter}
use Rattle.std.specs.Vec.Iter.{into_iter_items, into_iter_len, into_iter_steps}

pub nothing_left : {A : Type 0} (xs : List A) → length xs ≡ 0 → xs ≡ []
nothing_left [] none = refl
nothing_left (x ∷ xs) none = absurd (omega arith)

-- after the first was taken the others are left
pub after_first : {A Z : Type 0} (s t : IntoIter A Z) (taken : Option A) → into_iter_len s ≡ length (into_iter_items s) → into_iter_len t ≡ length (into_iter_items t)
    → into_iter_steps s taken t → into_iter_items t ≡ drop 1 (into_iter_items s)
after_first s t None all left step =
    nothing_left (into_iter_items t) (sym left ∙ step.1) ∙ sym (ap (drop 1) (nothing_left (into_iter_items s) (sym all ∙ step.0)))
after_first s t (Some x) all left step = sym (ap (drop 1) step.0)
