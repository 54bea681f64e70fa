-- Rows of truth values, one for each point.
use Rattle.std.specs.Prelude.{ℕ, ◌*◌, ◌/◌, ◌%◌, ◌≤◌, ◌≡◌, Bool, true, false, ◌&&◌, List, map, slice_index_or}
use Rattle.std.specs.List.{range_with_len}
use Rattle.xp_base.specs.Points.{is_within}
use Rattle.xp_base.specs.Grid.{place_of}
use Rattle.rect_regions.specs.PointSets.{SamePoints}
use Rattle.rect_regions.specs.declared.combination.Combination.{Combination}
use Rattle.rect_regions.specs.Combinations.{combined}

-- so many columns and rows, and a mark for each point, row by row from the top
pub record BitRows : Type 0 where
  pub wide : ℕ
  pub high : ℕ
  pub marks : List Bool

-- there is a column, and no more of them or of rows than rectangles have
pub record IsSize (wide high : ℕ) : Type 0 where
  pub some : 1 ≤ wide
  pub across : wide ≤ 4096
  pub down : high ≤ 4096

abbrev pub IsBitRows : BitRows → Type 0
IsBitRows b = IsSize b.wide b.high

unfoldable pub has_mark : BitRows → ℕ → ℕ → Bool
has_mark b x y = is_within b.wide b.high x y && slice_index_or b.marks (place_of b.wide x y) false

-- a mark for each point, by a test of it
unfoldable pub marks_of : ℕ → ℕ → (ℕ → ℕ → Bool) → List Bool
marks_of wide high test = map (λ k. test (k % wide) (k / wide)) (range_with_len 0 (wide * high))

-- the columns and rows hold the set
abbrev pub AllWithin : ℕ → ℕ → (ℕ → ℕ → Bool) → Type 0
AllWithin wide high set = (x y : ℕ) → set x y ≡ true → is_within wide high x y ≡ true

-- the marks are those of the points of two sets, so combined
abbrev pub MarksCombined : Combination → (ℕ → ℕ → Bool) → (ℕ → ℕ → Bool) → BitRows → Type 0
MarksCombined c one other b = SamePoints (has_mark b) (combined c one other)
