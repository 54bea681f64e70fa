-- Pixels of a window, row by row from the top.
use Rattle.std.specs.Prelude.{ℕ, Bool, ◌+◌, ◌*◌, ◌/◌, ◌%◌, Option, None, List, slice_get, if◌then◌else◌}
use Rattle.xp_base.specs.Points.{Rectangle, is_in, is_within}

-- the place of a point in rows this wide
abbrev pub place_of : ℕ → ℕ → ℕ → ℕ
place_of wide x y = y * wide + x

-- the number at a point of a window of this size; none outside
abbrev pub number_at : ℕ → ℕ → List ℕ → ℕ → ℕ → Option ℕ
number_at w h numbers x y = if is_within w h x y then slice_get numbers (place_of w x y) else None

-- the k-th pixel of rows this wide is in the rectangle
abbrev pub is_place_in : ℕ → Rectangle → ℕ → Bool
is_place_in wide r k = is_in r (k % wide) (k / wide)
