-- Going over lists of rectangles: from row to row, and within a band from column to column.
use Rattle.std.specs.Prelude.{ℕ, ◌≡◌, ◌<◌, ◌≤◌, ◌+◌, Bool, true, false, ◌&&◌, ◌||◌, nat_le, List, [], ◌∷◌, ◌++◌, if◌then◌else◌}
use Rattle.xp_base.specs.Points.{Rectangle, IsRectangle, is_in}
use Rattle.rect_regions.specs.PointSets.{has, SamePoints}
use Rattle.rect_regions.specs.Bands.{Each, IsOrdered, BeginsAnew}
use Rattle.rect_regions.specs.declared.combination.Combination.{Combination}
use Rattle.rect_regions.specs.Combinations.{keeps, combined}
use Rattle.rect_regions.specs.Making.{in_rows, columns, EndsBy, IsMade, Gaps, AppendsBand}

-- rectangles in the order of a row-band list; the runs of a band
pub record IsSorted (rects : List Rectangle) : Type 0 where
  pub sized : Each IsRectangle rects
  pub ordered : IsOrdered rects

pub record IsRuns (band : List Rectangle) : Type 0 where
  pub sized : Each IsRectangle band
  pub gaps : Gaps band

-- what is left of a band from a column on
pub record IsRightOf (x : ℕ) (band left : List Rectangle) : Type 0 where
  pub runs : IsRuns left
  pub reach : Each (λ r. x < r.x + r.w) left
  pub same : (c : ℕ) → x ≤ c → columns band c ≡ columns left c

-- the columns from `x` to `until - 1`, of which what is left has all or none
pub record IsRun (left : List Rectangle) (x : ℕ) (on : Bool) (until : ℕ) : Type 0 where
  pub right : x < until
  pub limit : until ≤ 4096
  pub same : (c : ℕ) → x ≤ c → c < until → columns left c ≡ on
  pub within : Each (λ r. until ≤ r.x + r.w) left

-- what is left of a list from a row on
pub record IsBelow (row : ℕ) (rects left : List Rectangle) : Type 0 where
  pub front : List Rectangle
  pub parts : rects ≡ front ++ left
  pub sorted : IsSorted left
  pub reach : Each (λ r. row < r.y + r.h) left
  pub points : (x y : ℕ) → row ≤ y → has rects x y ≡ has left x y

-- the first of what is left does not begin in this row
abbrev pub BeginsElsewhere : ℕ → List Rectangle → Type 0
BeginsElsewhere top [] = Unit {0}
BeginsElsewhere top (r ∷ left) = r.y ≡ top → ⊥

-- the rectangles that begin in this row, at the front of the list, and the others
pub record IsFirstBand (top : ℕ) (left band below : List Rectangle) : Type 0 where
  pub parts : left ≡ band ++ below
  pub same : Each (λ r. r.y ≡ top) band
  pub other : BeginsElsewhere top below

-- the rows from `top` to `bottom - 1`, in which what is left has just the columns of a band; and what is left below them
pub record IsStretch (left : List Rectangle) (top bottom : ℕ) (band below : List Rectangle) : Type 0 where
  pub down : top < bottom
  pub limit : bottom ≤ 4096
  pub runs : IsRuns band
  pub rows : (x y : ℕ) → top ≤ y → y < bottom → has left x y ≡ columns band x
  pub within : Each (λ r. bottom ≤ r.y + r.h) left
  pub after : IsBelow bottom left below
  pub lower : Each (λ r. bottom ≤ r.y) below

-- the rectangle ends above the point's row, or begins by it and ends left of the point
abbrev pub is_past : Rectangle → ℕ → ℕ → Bool
is_past r x y = nat_le (r.y + r.h) y || (nat_le r.y y && nat_le (r.x + r.w) x)

-- the set has all points of a rectangle
abbrev pub Covers : (ℕ → ℕ → Bool) → Rectangle → Type 0
Covers set r = (x y : ℕ) → is_in r x y ≡ true → set x y ≡ true

-- the columns of a rectangle are all there in the rows from one on to the one before the other; none is where a point is
-- missing in the first
pub record IsCoveredTo (rects : List Rectangle) (r : Rectangle) (y next : ℕ) : Type 0 where
  pub order : y ≤ next
  pub there : (p q : ℕ) → r.x ≤ p → p < r.x + r.w → y ≤ q → q < next → has rects p q ≡ true
  pub missing : next ≡ y → (p : ℕ) × (r.x ≤ p) × (p < r.x + r.w) × (has rects p y ≡ false)

-- the place where the last band of a list begins, however far down that is taken to be made
abbrev pub IsLastBand : List Rectangle → ℕ → Type 0
IsLastBand rects last = (down : ℕ) → Each (EndsBy down) rects → IsMade rects last down

-- the points of a list are those of two others, so combined; and the columns of a row of two bands, so combined
abbrev pub IsCombined : Combination → List Rectangle → List Rectangle → List Rectangle → Type 0
IsCombined c one other rects = SamePoints (has rects) (combined c (has one) (has other))

abbrev pub combined_row : Combination → List Rectangle → List Rectangle → ℕ → Bool
combined_row c one other x = keeps c (columns one x) (columns other x)

-- a band of these rows was appended that has the runs of two bands, so combined
abbrev pub AppendsRuns : Combination → List Rectangle → List Rectangle → List Rectangle → List Rectangle → ℕ → ℕ → Type 0
AppendsRuns c one other old new top bottom = AppendsBand old new top bottom (combined_row c one other)

-- what is kept of rectangles of the one list where the other has nothing
abbrev pub kept_alone : Combination → List Rectangle → List Rectangle
kept_alone c rects = if keeps c true false then rects else []

-- to the points of a list come those of a row, in some rows; or those of what is left from a row on
abbrev pub AddsRows : List Rectangle → List Rectangle → ℕ → ℕ → (ℕ → Bool) → Type 0
AddsRows old new top bottom row = (x y : ℕ) → has new x y ≡ (has old x y || (row x && in_rows top bottom y))

abbrev pub AddsRest : List Rectangle → List Rectangle → ℕ → List Rectangle → Type 0
AddsRest old new row left = (x y : ℕ) → has new x y ≡ (has old x y || (has left x y && nat_le row y))

-- where the rectangle begins below the row, it is not the row above over again
abbrev pub BeginsBelow : ℕ → List Rectangle → Rectangle → Type 0
BeginsBelow row left r = row < r.y → BeginsAnew (has left) r

-- the points of two lists, so combined, came to those of a list from one row on to another, beyond all of the second; and
-- what is left of the first
pub record IsSwept (c : Combination) (one other old new : List Rectangle) (from last y : ℕ) (rest : List Rectangle) : Type 0 where
  pub made : IsMade new last y
  pub left : IsBelow y one rest
  pub points : (p q : ℕ) → has new p q ≡ (has old p q || (combined c (has one) (has other) p q && in_rows from y q))
  pub order : from ≤ y
  pub past : Each (EndsBy y) other
  pub limit : y ≤ 4096
