-- How the points of two sets make the points of another.
use Rattle.std.specs.Prelude.{ℕ, Bool, ◌&&◌, ◌||◌, not, min, max}
use Rattle.rect_regions.specs.declared.combination.Combination.{Combination}
use Rattle.rect_regions.specs.declared.combination.Combination.TheVariants as C

-- whether a point stays, by whether the one set has it and the other
abbrev pub keeps : Combination → Bool → Bool → Bool
keeps C.Union one other = one || other
keeps C.Difference one other = one && not other
keeps C.Overlap one other = one && other

abbrev pub combined : Combination → (ℕ → ℕ → Bool) → (ℕ → ℕ → Bool) → ℕ → ℕ → Bool
combined c one other x y = keeps c (one x y) (other x y)

-- behind this number there is nothing to keep, where there is nothing of the one set behind the first and of the other behind
-- the second
abbrev pub limit_of : Combination → ℕ → ℕ → ℕ
limit_of C.Union one other = max one other
limit_of C.Difference one other = one
limit_of C.Overlap one other = min one other
