-- Points and rectangles, in pixels from the top left corner.
use Rattle.std.specs.Prelude.{ℕ, ◌+◌, ◌-◌, ◌*◌, ◌≤◌, Bool, ◌&&◌, nat_le, nat_lt, min}

-- the columns x to x + w - 1 in the rows y to y + h - 1
pub record Rectangle : Type 0 where
  pub x : ℕ
  pub y : ℕ
  pub w : ℕ
  pub h : ℕ

-- a rectangle as the product makes them: of at least one pixel, in 4,096 by 4,096
pub record IsRectangle (r : Rectangle) : Type 0 where
  pub wide : 1 ≤ r.w
  pub high : 1 ≤ r.h
  pub across : r.x + r.w ≤ 4096
  pub down : r.y + r.h ≤ 4096

-- the point is in the rectangle
abbrev pub is_in : Rectangle → ℕ → ℕ → Bool
is_in r x y = (nat_le r.x x && nat_lt x (r.x + r.w)) && (nat_le r.y y && nat_lt y (r.y + r.h))

-- the point is in a window of this size
abbrev pub is_within : ℕ → ℕ → ℕ → ℕ → Bool
is_within w h x y = nat_lt x w && nat_lt y h

-- a window of the size w0 by h0 gets the size w by h: the point is in both, so that it keeps its pixel
abbrev pub survives : ℕ → ℕ → ℕ → ℕ → ℕ → ℕ → Bool
survives w0 h0 w h x y = is_within w0 h0 x y && is_within w h x y

-- the rectangle lies in a window of this size
pub record LiesIn (w h : ℕ) (r : Rectangle) : Type 0 where
  pub across : r.x + r.w ≤ w
  pub down : r.y + r.h ≤ h

-- all of a window
abbrev pub whole : ℕ → ℕ → Rectangle
whole w h = record { x = 0; y = 0; w = w; h = h }

-- what of the rectangle is in a window of this size; empty sides are 0
abbrev pub clip : ℕ → ℕ → Rectangle → Rectangle
clip w h r = record { x = r.x; y = r.y; w = min (r.x + r.w) w - r.x; h = min (r.y + r.h) h - r.y }

-- how many pixels a rectangle has
abbrev pub area : Rectangle → ℕ
area r = r.w * r.h
