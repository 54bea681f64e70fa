-- Sets of points and grids of numbers, row by row from the top. This project's own.
use Rattle.std.specs.Prelude.{ℕ, ◌+◌, ◌-◌, ◌*◌, ◌/◌, ◌%◌, Bool, false, ◌&&◌, Option, Some, None, List, map, slice_index, slice_index_or, if◌then◌else◌}
use Rattle.std.specs.List.{range_with_len}
use Rattle.xp_base.specs.Points.{Rectangle, is_within}
use Rattle.xp_base.specs.Grid.{place_of}

-- what f gives at each point of w by h
unfoldable pub each_point : {A : Type 0} → ℕ → ℕ → (ℕ → ℕ → A) → List A
each_point w h f = map (λ k. f (k % w) (k / w)) (range_with_len 0 (w * h))

-- points of a window of this size, by a mark for each
pub record Points : Type 0 where
  pub wide : ℕ
  pub high : ℕ
  pub marks : List Bool

-- the points at which f says so
abbrev pub points : ℕ → ℕ → (ℕ → ℕ → Bool) → Points
points w h f = record { wide = w; high = h; marks = each_point w h f }

unfoldable pub has : Points → ℕ → ℕ → Bool
has set x y = is_within set.wide set.high x y && slice_index_or set.marks (place_of set.wide x y) false

-- a window's size and its numbers
pub record Grid : Type 0 where
  pub wide : ℕ
  pub high : ℕ
  pub numbers : List ℕ

abbrev pub grid : ℕ → ℕ → (ℕ → ℕ → ℕ) → Grid
grid w h f = record { wide = w; high = h; numbers = each_point w h f }

-- the number at a point; it says something of points in the grid alone
unfoldable pub number : Grid → ℕ → ℕ → ℕ
number g x y = slice_index g.numbers (place_of g.wide x y)

-- the number at a point of a window that may not be there, or may not have the point
abbrev pub shown_at : Option Grid → ℕ → ℕ → Option ℕ
shown_at None x y = None
shown_at (Some g) x y = if is_within g.wide g.high x y then Some (number g x y) else None

-- a rectangle's numbers, as they stand in a grid
abbrev pub cut : Grid → Rectangle → List ℕ
cut g r = each_point r.w r.h (λ i j. number g (r.x + i) (r.y + j))

-- of a rectangle's numbers the one at this point of the window; it says something of points in the rectangle alone
unfoldable pub number_in : Rectangle → List ℕ → ℕ → ℕ → ℕ
number_in r numbers x y = slice_index numbers (place_of r.w (x - r.x) (y - r.y))
