-- The least rectangle that holds a list, rectangle by rectangle.
use Rattle.std.proofs.Common.{◌≡◌, ℕ, ◌+◌, ◌<◌, ◌≤◌, Bool, false, ◌||◌, Option, MatchOption, List, [], ◌∷◌, length, take, get_or, sym, ap, subst, ◌∙◌}
use Rattle.std.proofs.lemmas.List.{take_more, take_all}
use Rattle.xp_base.specs.Points.{Rectangle, IsRectangle, is_in}
use Rattle.rect_regions.specs.PointSets.{has, HasNone, IsBounds}
use Rattle.rect_regions.specs.Bounding.{with_rect}
use Rattle.rect_regions.specs.Sweeping.{IsSorted}
use Rattle.rect_regions.proofs.Rects.{has-append}
use Rattle.rect_regions.proofs.Places.{Each-at}
use Rattle.rect_regions.proofs.Makings.{or_false}
use Rattle.rect_regions.proofs.Boundings.{BoundsSoFar, bounds_with, bounds_same, bounds_match}

has-take_more : (rects : List Rectangle) (i : ℕ) (r : Rectangle) (x y : ℕ) → i < length rects → r ≡ get_or rects i r → has (take (i + 1) rects) x y ≡ (has (take i rects) x y || is_in r x y)
has-take_more rects i r x y low is =
    ap (λ (l : List Rectangle). has l x y) (take_more rects i r low)
    ∙ has-append (take i rects) (get_or rects i r ∷ []) x y
    ∙ ap (λ (t : Rectangle). has (take i rects) x y || (is_in t x y || false)) (sym is)
    ∙ ap (λ (b : Bool). has (take i rects) x y || b) (or_false (is_in r x y))

pub bounds_more : (rects : List Rectangle) (i : ℕ) (r : Rectangle) (bounds : Option Rectangle) → IsSorted rects → i < length rects → r ≡ get_or rects i r
    → BoundsSoFar (has (take i rects)) bounds → IsBounds (has (take (i + 1) rects)) (with_rect bounds r)
bounds_more rects i r bounds sorted low is so_far =
    bounds_with (has (take i rects)) (has (take (i + 1) rects)) bounds r (subst IsRectangle (sym is) (Each-at IsRectangle rects i r sorted.sized low))
    (λ x y. has-take_more rects i r x y low is) so_far

pub bounds_all : (rects : List Rectangle) (i : ℕ) (bounds : Option Rectangle) → length rects ≤ i → BoundsSoFar (has (take i rects)) bounds
    → MatchOption bounds (HasNone (has rects)) (λ r. IsBounds (has rects) r)
bounds_all rects i bounds past so_far =
    bounds_match (has rects) bounds (bounds_same (has (take i rects)) (has rects) bounds (λ x y. ap (λ (l : List Rectangle). has l x y) (take_all i rects past)) so_far)
