-- Sets of points of a window: a mark for each point, row by row from the top.
use Rattle.std.specs.Prelude.{ℕ, ◌+◌, ◌*◌, ◌≤◌, ◌≡◌, Bool, false, ◌&&◌, ◌||◌, List, [], ◌∷◌, length, replicate, slice_index_or}
use Rattle.xp_base.specs.Points.{Rectangle, is_within}
use Rattle.xp_base.specs.Grid.{place_of, is_place_in}

pub record PointSet : Type 0 where
  pub w : ℕ
  pub h : ℕ
  pub marks : List Bool

-- there is a mark for each point
pub record IsPointSet (p : PointSet) : Type 0 where
  pub wide : p.w ≤ 4096
  pub high : p.h ≤ 4096
  pub sized : length p.marks ≡ p.w * p.h

-- the point is in the set
abbrev pub has : PointSet → ℕ → ℕ → Bool
has p x y = is_within p.w p.h x y && slice_index_or p.marks (place_of p.w x y) false

-- no point is in the set
abbrev pub HasNone : PointSet → Type 0
HasNone p = (k : ℕ) → slice_index_or p.marks k false ≡ false

-- all points of a window, or none
abbrev pub whole_set : ℕ → ℕ → Bool → PointSet
whole_set w h all = record { w = w; h = h; marks = replicate (w * h) all }

-- from the k-th place on, the rectangle's places are marked, too
abbrev pub marked_from : ℕ → Rectangle → ℕ → List Bool → List Bool
marked_from wide r k [] = []
marked_from wide r k (mark ∷ marks) = (is_place_in wide r k || mark) ∷ marked_from wide r (k + 1) marks

-- the rectangle's points that lie in the window are in the set, too
unfoldable pub with_rectangle : Rectangle → PointSet → PointSet
with_rectangle r p = record p { marks = marked_from p.w r 0 p.marks }
