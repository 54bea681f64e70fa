-- What the jobs in hand relieve, job by job.
use Rattle.std.proofs.Common.{◌≡◌, ℕ, ◌+◌, ◌<◌, Bool, true, false, ◌||◌, Some, List, [], ◌∷◌, ◌++◌, length, take, refl, sym, ◌∙◌, ap}
use Rattle.std.specs.Prelude.{slice_get}
use Rattle.std.proofs.lemmas.List.{take_more}
use Rattle.std.proofs.lemmas.List.Folds.{list_any-append}
use Rattle.std.proofs.lemmas.Option.{get_or_from_slice_get}
use Rattle.rect_regions.specs.PointSets.{SamePoints, united}
use Rattle.draw_sequencer.specs.InHand.{HeldJob, relieve}

or_false : (b : Bool) → (b || false) ≡ b
or_false true = refl
or_false false = refl

or_grouped : (a b c : Bool) → ((a || b) || c) ≡ (a || (b || c))
or_grouped true b c = refl
or_grouped false b c = refl

module _ {R : Type 0} (has : R → ℕ → ℕ → Bool) where
  relieve_more : (jobs : List (HeldJob R)) (k : ℕ) (j : HeldJob R) (x y : ℕ) → slice_get jobs k ≡ Some j → k < length jobs → relieve has (take (k + 1) jobs) x y ≡ (relieve has (take k jobs) x y || has j.relief x y)
  relieve_more jobs k j x y here within =
      let more : take (k + 1) jobs ≡ take k jobs ++ j ∷ [] = rw (get_or_from_slice_get jobs k j j here) at (take_more jobs k j within) in
      ap (λ (l : List (HeldJob R)). relieve has l x y) more ∙ (list_any-append (λ (i : HeldJob R). has i.relief x y) (take k jobs) (j ∷ []) ∙ ap (λ b. relieve has (take k jobs) x y || b) (or_false (has j.relief x y)))

  -- the reliefs of one job more were added
  pub added_more : (jobs : List (HeldJob R)) (k : ℕ) (j : HeldJob R) (initial before after : R) → slice_get jobs k ≡ Some j → k < length jobs
      → SamePoints (has before) (united (has initial) (relieve has (take k jobs))) → SamePoints (has after) (united (has before) (has j.relief))
      → SamePoints (has after) (united (has initial) (relieve has (take (k + 1) jobs)))
  added_more jobs k j initial before after here within so_far more x y =
      more x y ∙ (ap (λ b. b || has j.relief x y) (so_far x y) ∙ (or_grouped (has initial x y) (relieve has (take k jobs) x y) (has j.relief x y)
      ∙ ap (λ b. has initial x y || b) (sym (relieve_more jobs k j x y here within))))
