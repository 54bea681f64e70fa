-- Row-band lists that are being made, from top to bottom.
use Rattle.std.specs.Prelude.{ℕ, ◌≡◌, ◌<◌, ◌≤◌, ◌+◌, ◌-◌, ◌==◌, Bool, true, false, ◌&&◌, ◌||◌, nat_le, nat_lt, List, [], ◌∷◌, ◌++◌, length, map, take, drop, if◌then◌else◌}
use Rattle.xp_base.specs.Points.{Rectangle, IsRectangle}
use Rattle.rect_regions.specs.Bands.{Each, IsOrdered, IsBanded}
use Rattle.rect_regions.specs.BitRows.{BitRows, has_mark}

-- the rectangle has this column; one of them has it; the rectangle has this row
abbrev pub in_columns : Rectangle → ℕ → Bool
in_columns r x = nat_le r.x x && nat_lt x (r.x + r.w)

abbrev pub columns : List Rectangle → ℕ → Bool
columns [] x = false
columns (r ∷ rects) x = in_columns r x || columns rects x

abbrev pub in_rows : ℕ → ℕ → ℕ → Bool
in_rows top bottom y = nat_le top y && nat_lt y bottom

-- rectangles with the same columns, one by one
abbrev pub same_runs : List Rectangle → List Rectangle → Bool
same_runs [] [] = true
same_runs [] (s ∷ other) = false
same_runs (r ∷ one) [] = false
same_runs (r ∷ one) (s ∷ other) = ((r.x == s.x) && (r.w == s.w)) && same_runs one other

-- the rectangle has just these rows
pub record HasRows (top bottom : ℕ) (r : Rectangle) : Type 0 where
  pub from_top : r.y ≡ top
  pub to_bottom : r.y + r.h ≡ bottom

-- the rectangle ends at this row or above it
abbrev pub EndsBy : ℕ → Rectangle → Type 0
EndsBy row r = r.y + r.h ≤ row

-- rectangles from left to right with gaps between them
abbrev pub Gaps : List Rectangle → Type 0
Gaps [] = Unit {0}
Gaps (r ∷ rects) = (1 ≤ r.w) × Each (λ s. r.x + r.w < s.x) rects × Gaps rects

-- the same in just these rows
pub record IsBand (top bottom : ℕ) (band : List Rectangle) : Type 0 where
  pub sized : Each IsRectangle band
  pub rows : Each (HasRows top bottom) band
  pub ordered : IsOrdered band

-- a row-band list down to a row, whose last band begins at this place
pub record IsMade (rects : List Rectangle) (last down : ℕ) : Type 0 where
  pub banded : IsBanded rects
  pub front : List Rectangle
  pub ending : List Rectangle
  pub parts : rects ≡ front ++ ending
  pub place : length front ≡ last
  pub some : ending ≡ [] → rects ≡ []
  pub top : ℕ
  pub bottom : ℕ
  pub before : Each (EndsBy top) front
  pub rows : Each (HasRows top bottom) ending
  pub limit : top ≤ down
  pub reach : bottom ≤ down

-- a list so made, with a band of these rows behind it
pub record IsExtended (rects : List Rectangle) (last start top bottom : ℕ) : Type 0 where
  pub old : List Rectangle
  pub band : List Rectangle
  pub parts : rects ≡ old ++ band
  pub place : length old ≡ start
  pub made : IsMade old last top
  pub shape : IsBand top bottom band
  pub some : top < bottom

-- a band of these rows was appended that has the columns of this row
pub record AppendsBand (old new : List Rectangle) (top bottom : ℕ) (row : ℕ → Bool) : Type 0 where
  pub band : List Rectangle
  pub parts : new ≡ old ++ band
  pub shape : IsBand top bottom band
  pub same : (x : ℕ) → columns band x ≡ row x

-- a band of one row was appended that has the columns of the marks in it
abbrev pub AppendsMarks : List Rectangle → List Rectangle → BitRows → ℕ → Type 0
AppendsMarks old new b y = AppendsBand old new y (y + 1) (λ x. has_mark b x y)

-- the same as far as the columns below `limit`; those from there to `x` are of a run that has not ended
pub record RunsSoFar (old new : List Rectangle) (top bottom : ℕ) (row : ℕ → Bool) (limit x : ℕ) : Type 0 where
  pub band : List Rectangle
  pub parts : new ≡ old ++ band
  pub shape : IsBand top bottom band
  pub ends : Each (λ r. r.x + r.w < limit) band
  pub same : (c : ℕ) → columns band c ≡ (row c && nat_lt c limit)
  pub under_way : (c : ℕ) → limit ≤ c → c < x → row c ≡ true
  pub ahead : limit ≤ x

-- the rectangle as far down as this row
abbrev pub lengthened : ℕ → Rectangle → Rectangle
lengthened bottom r = record { x = r.x; y = r.y; w = r.w; h = bottom - r.y }

-- the list, whose rectangles from a place on reach down to this row
abbrev pub lengthened_from : ℕ → ℕ → List Rectangle → List Rectangle
lengthened_from from bottom rects = take from rects ++ map (lengthened bottom) (drop from rects)

-- a band from this row on follows right below the one before it, with the same runs
abbrev pub goes_on : List Rectangle → List Rectangle → ℕ → Bool
goes_on [] band top = false
goes_on (r ∷ before) band top = ((r.y + r.h) == top) && same_runs (r ∷ before) band

-- the columns from the one to the one before the other, in these rows
abbrev pub run_to : ℕ → ℕ → ℕ → ℕ → Rectangle
run_to top bottom from until = record { x = from; y = top; w = until - from; h = bottom - top }

-- the list with that rectangle behind it, if there is any column
abbrev pub with_run : List Rectangle → ℕ → ℕ → ℕ → ℕ → List Rectangle
with_run rects top bottom from until = if nat_lt from until then rects ++ run_to top bottom from until ∷ [] else rects
