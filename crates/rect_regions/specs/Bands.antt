-- The row-band list of a set of points: each row cut into maximal runs, equal neighbouring rows joined, from top to bottom
-- and from left to right. This project's own, after the regions of the X server.
use Rattle.std.specs.Prelude.{ℕ, ◌≡◌, ◌<◌, ◌≤◌, ◌+◌, Bool, List, [], ◌∷◌, ◌⊎◌}
use Rattle.xp_base.specs.Points.{Rectangle, IsRectangle}
use Rattle.rect_regions.specs.PointSets.{has, SamePoints}

abbrev pub Each : {A : Type 0} → (A → Type 0) → List A → Type 0
Each P [] = Unit {0}
Each P (a ∷ items) = P a × Each P items

-- the first rectangle stands left of the other in the same rows, with a gap between them; or above it
abbrev pub GoesBefore : Rectangle → Rectangle → Type 0
GoesBefore r s = ((s.y ≡ r.y) × (s.h ≡ r.h) × (r.x + r.w < s.x)) ⊎ (r.y + r.h ≤ s.y)

abbrev pub IsOrdered : List Rectangle → Type 0
IsOrdered [] = Unit {0}
IsOrdered (r ∷ rects) = Each (GoesBefore r) rects × IsOrdered rects

-- the set's row above the rectangle is not its first row over again, with which it would be joined
abbrev pub BeginsAnew : (ℕ → ℕ → Bool) → Rectangle → Type 0
BeginsAnew set r = (above : ℕ) → above + 1 ≡ r.y → ((x : ℕ) → set x above ≡ set x r.y) → ⊥

pub record IsRowBands (set : ℕ → ℕ → Bool) (rects : List Rectangle) : Type 0 where
  pub sized : Each IsRectangle rects
  pub ordered : IsOrdered rects
  pub joined : Each (BeginsAnew set) rects
  pub points : SamePoints (has rects) set

-- a list that is the row-band list of its own points
abbrev pub IsBanded : List Rectangle → Type 0
IsBanded rects = IsRowBands (has rects) rects
