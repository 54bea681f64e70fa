-- Points of a list that is made row by row.
use Rattle.std.proofs.Common.{◌≡◌, ℕ, ◌<◌, ◌≤◌, Bool, true, false, ◌&&◌, ◌||◌, List, ◌++◌, length, inl, inr, refl, ap, ◌∙◌, arith, ltb}
use Rattle.std.proofs.lemmas.Bool.Decides.{nat_tests}
use Rattle.std.proofs.lemmas.Bool.{cases_lt}
use Rattle.xp_base.specs.Points.{Rectangle}
use Rattle.rect_regions.specs.PointSets.{has, SamePoints}
use Rattle.rect_regions.specs.Bands.{IsRowBands}
use Rattle.rect_regions.specs.Making.{in_rows, columns, IsBand, IsMade, IsExtended, AppendsBand}
use Rattle.rect_regions.proofs.Rects.{has-append, has-band, IsRowBands-same}

-- the rows so far have the set's points, and the next ones have none
abbrev pub HasRowsOf : (ℕ → ℕ → Bool) → List Rectangle → ℕ → Type 0
HasRowsOf set rects down = (x y : ℕ) → has rects x y ≡ (set x y && ltb y down)

rows_more : (s c : Bool) (top bottom y : ℕ) → top ≤ bottom → (top ≤ y → y < bottom → s ≡ c) → ((s && ltb y top) || (c && in_rows top bottom y)) ≡ (s && ltb y bottom)
rows_more s c top bottom y some same = elim (cases_lt y top) [
  | inl above ↦ grind (arith, nat_tests)
  | inr below ↦ elim (cases_lt y bottom) [
    | inl within ↦ let is = same below within in grind (arith, nat_tests)
    | inr past ↦ grind (arith, nat_tests)
  ]
]

pub rows_appended : (set : ℕ → ℕ → Bool) (old band : List Rectangle) (top bottom : ℕ) (row : ℕ → Bool) → top ≤ bottom → IsBand top bottom band → ((x : ℕ) → columns band x ≡ row x)
    → ((x y : ℕ) → top ≤ y → y < bottom → set x y ≡ row x) → HasRowsOf set old top → HasRowsOf set (old ++ band) bottom
rows_appended set old band top bottom row some shape same rows so_far x y =
    has-append old band x y
    ∙ ap (λ (b : Bool). b || has band x y) (so_far x y)
    ∙ ap (λ (b : Bool). (set x y && ltb y top) || b) (has-band top bottom band x y shape.rows ∙ ap (λ (b : Bool). b && in_rows top bottom y) (same x))
    ∙ rows_more (set x y) (row x) top bottom y some (rows x y)

-- a band that was appended to what was made is to be joined
pub extended : (old new : List Rectangle) (last start top bottom : ℕ) (row : ℕ → Bool) → length old ≡ start → top < bottom → IsMade old last top → AppendsBand old new top bottom row
    → IsExtended new last start top bottom
extended old new last start top bottom row at some made appended = record {
  old = old;
  band = appended.band;
  parts = appended.parts;
  place = at;
  made = made;
  shape = appended.shape;
  some = some;
}

-- the rows after a band was appended and joined
pub rows_joined_on : (set : ℕ → ℕ → Bool) (old new joined : List Rectangle) (top bottom : ℕ) (row : ℕ → Bool) → top ≤ bottom → AppendsBand old new top bottom row
    → ((x y : ℕ) → top ≤ y → y < bottom → set x y ≡ row x) → SamePoints (has joined) (has new) → HasRowsOf set old top → HasRowsOf set joined bottom
rows_joined_on set old new joined top bottom row some appended rows same so_far x y =
    same x y ∙ ap (λ (l : List Rectangle). has l x y) appended.parts
    ∙ rows_appended set old appended.band top bottom row some appended.shape appended.same rows so_far x y

pub all_rows : (b : Bool) (y down : ℕ) → (b ≡ true → y < down) → (b && ltb y down) ≡ b
all_rows true y down within = let low = within refl in grind (arith, nat_tests)
all_rows false y down within = refl

-- all rows of the set are made
pub made_all : (set : ℕ → ℕ → Bool) (rects : List Rectangle) (last down : ℕ) → ((x y : ℕ) → set x y ≡ true → y < down) → IsMade rects last down → HasRowsOf set rects down
    → IsRowBands set rects
made_all set rects last down within made rows = IsRowBands-same (has rects) set rects (λ x y. rows x y ∙ all_rows (set x y) y down (within x y)) made.banded

-- nothing is made of rows that have no points
pub rows_none : (set : ℕ → ℕ → Bool) (x y : ℕ) → false ≡ (set x y && ltb y 0)
rows_none set x y = none_below (set x y) y
  where
    none_below : (b : Bool) (y : ℕ) → false ≡ (b && ltb y 0)
    none_below true y = grind (arith, nat_tests)
    none_below false y = refl
