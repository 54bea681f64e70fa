-- What the definitions come to, point by point and byte by byte.
use Rattle.std.specs.Prelude.{ℕ, ◌+◌, ◌<◌, ◌≡◌, ◌&&◌, ◌||◌, Bool, drop}
use Rattle.xp_base.specs.Points.{Rectangle, is_in, is_within}
use Rattle.client_connection.specs.PointSets.{PointSet, IsPointSet, has, whole_set, with_rectangle}
use Rattle.client_connection.specs.Clients.{ClientSeen, front_size, front_rest, taken_more}

abbrev pub RectangleMarked : Type 0
RectangleMarked = (r : Rectangle) (p : PointSet) (x y : ℕ) → IsPointSet p
    → has (with_rectangle r p) x y ≡ ((is_within p.w p.h x y && is_in r x y) || has p x y)

abbrev pub WholeMarked : Type 0
WholeMarked = (w h : ℕ) (all : Bool) (x y : ℕ) → has (whole_set w h all) x y ≡ (is_within w h x y && all)

abbrev pub TakenGone : Type 0
TakenGone = (n : ℕ) (c : ClientSeen) → c.taken + n < front_size c.packets
    → front_rest (taken_more n c).packets (taken_more n c).taken ≡ drop n (front_rest c.packets c.taken)
