-- Sets of points: whether a set has the point in a column and a row, from the top left corner. This project's own.
use Rattle.std.specs.Prelude.{ℕ, zero, suc, ◌≡◌, ◌<◌, ◌+◌, Bool, true, false, ◌&&◌, ◌||◌, not, List, [], ◌∷◌, if◌then◌else◌}
use Rattle.xp_base.specs.Points.{Rectangle, is_in}

-- a list of rectangles has the points that one of them has
abbrev pub has : List Rectangle → ℕ → ℕ → Bool
has [] x y = false
has (r ∷ rects) x y = is_in r x y || has rects x y

abbrev pub SamePoints : (ℕ → ℕ → Bool) → (ℕ → ℕ → Bool) → Type 0
SamePoints one other = (x y : ℕ) → one x y ≡ other x y

abbrev pub HasNone : (ℕ → ℕ → Bool) → Type 0
HasNone set = (x y : ℕ) → set x y ≡ false

-- the set has all points of the other
abbrev pub HasAll : (ℕ → ℕ → Bool) → (ℕ → ℕ → Bool) → Type 0
HasAll set other = (x y : ℕ) → other x y ≡ true → set x y ≡ true

-- every point lies in the square that every rectangle lies in
abbrev pub IsLimited : (ℕ → ℕ → Bool) → Type 0
IsLimited set = (x y : ℕ) → set x y ≡ true → (x < 4096) × (y < 4096)

-- the points of one set or the other, of the one without the other, and of both
abbrev pub united : (ℕ → ℕ → Bool) → (ℕ → ℕ → Bool) → ℕ → ℕ → Bool
united one other x y = one x y || other x y

abbrev pub without : (ℕ → ℕ → Bool) → (ℕ → ℕ → Bool) → ℕ → ℕ → Bool
without one other x y = one x y && not (other x y)

abbrev pub shared : (ℕ → ℕ → Bool) → (ℕ → ℕ → Bool) → ℕ → ℕ → Bool
shared one other x y = one x y && other x y

-- f 0 + .. + f (n - 1)
unfoldable pub sum_below : ℕ → (ℕ → ℕ) → ℕ
sum_below zero f = 0
sum_below (suc n) f = sum_below n f + f n

-- how many points of one row are in the first columns, and how many points in the first columns and rows
abbrev pub count_row : ℕ → (ℕ → ℕ → Bool) → ℕ → ℕ
count_row wide set y = sum_below wide (λ x. if set x y then 1 else 0)

abbrev pub count_within : ℕ → ℕ → (ℕ → ℕ → Bool) → ℕ
count_within wide high set = sum_below high (count_row wide set)

-- how many points a set has in the square that every rectangle lies in
abbrev pub count_of : (ℕ → ℕ → Bool) → ℕ
count_of set = count_within 4096 4096 set

-- the least rectangle that holds the set: it has every point, and a point touches each of its sides
pub record IsBounds (set : ℕ → ℕ → Bool) (r : Rectangle) : Type 0 where
  pub holds : (x y : ℕ) → set x y ≡ true → is_in r x y ≡ true
  pub left : (y : ℕ) × (set r.x y ≡ true)
  pub right : (x y : ℕ) × (x + 1 ≡ r.x + r.w) × (set x y ≡ true)
  pub top : (x : ℕ) × (set x r.y ≡ true)
  pub bottom : (x y : ℕ) × (y + 1 ≡ r.y + r.h) × (set x y ≡ true)
