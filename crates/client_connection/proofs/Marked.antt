-- Marks at a point, after a rectangle was marked.
use Rattle.std.proofs.Common.{◌≡◌, inl, inr, ℕ, zero, suc, ◌+◌, ◌*◌, ◌/◌, ◌<◌, ◌≤◌, Bool, true, false, ◌&&◌, ◌||◌, List, [], ◌∷◌, length, get_or, replicate, refl, ap, ◌∙◌, arith}
use Rattle.std.proofs.Math.Nat.{mul-le-mul_right}
use Rattle.std.proofs.lemmas.Nat.{div-mul-add, mod-mul-add}
use Rattle.std.proofs.lemmas.Bool.Decides.{nat_tests}
use Rattle.xp_base.specs.Points.{Rectangle, is_in, is_within}
use Rattle.xp_base.specs.Grid.{place_of, is_place_in}
use Rattle.std.proofs.lemmas.Bool.{cases_lt}
use Rattle.client_connection.specs.PointSets.{PointSet, IsPointSet, has, whole_set, with_rectangle, marked_from}

-- the mark at a place
pub mark_at : (w : ℕ) (r : Rectangle) (from : ℕ) (marks : List Bool) (k : ℕ) → k < length marks → get_or (marked_from w r from marks) k false ≡ (is_place_in w r (from + k) || get_or marks k false)
mark_at w r from [] k within = absurd (omega (arith, within))
mark_at w r from (m ∷ marks) zero within = ap (λ n. is_place_in w r n || m) (omega arith)
mark_at w r from (m ∷ marks) (suc k) within = mark_at w r (from + 1) marks k (omega (arith, within)) ∙ ap (λ n. is_place_in w r n || get_or marks k false) (omega arith)

-- a point of a window has a place in it
pub place_below : (w h x y : ℕ) → x < w → y < h → place_of w x y < w * h
place_below w h x y across down =
    let row : (y + 1) * w ≤ h * w = mul-le-mul_right w (omega (arith, down)) in
    let e : w * h ≡ h * w = grind arith in
    omega (arith, row, e, across)

-- the place of a point is in the rectangle where the point is
pub place_in : (w x y : ℕ) (r : Rectangle) → x < w → is_place_in w r (place_of w x y) ≡ is_in r x y
place_in w x y r across = ap (λ n. is_in r n (place_of w x y / w)) (mod-mul-add y w x across) ∙ ap (is_in r x) (div-mul-add y w x across)

pub all_marked : (n k : ℕ) (all : Bool) → k < n → get_or (replicate n all) k false ≡ all
all_marked zero k all within = absurd (omega (arith, within))
all_marked (suc n) zero all within = refl
all_marked (suc n) (suc k) all within = all_marked n k all (omega (arith, within))

-- a point is in the set where it was, or in the rectangle and the window
pub has_marked : (r : Rectangle) (p : PointSet) (x y : ℕ) → IsPointSet p → has (with_rectangle r p) x y ≡ ((is_within p.w p.h x y && is_in r x y) || has p x y)
unfolding with_rectangle
has_marked r p x y s = elim (cases_lt x p.w) [
  | inl across ↦ elim (cases_lt y p.h) [
    | inl down ↦
        let low : place_of p.w x y < length p.marks = omega (arith, place_below p.w p.h x y across down, s.sized) in
        let at : get_or (marked_from p.w r 0 p.marks) (place_of p.w x y) false ≡ (is_in r x y || get_or p.marks (place_of p.w x y) false) =
        mark_at p.w r 0 p.marks (place_of p.w x y) low ∙ ap (λ b. b || get_or p.marks (place_of p.w x y) false) (ap (is_place_in p.w r) (omega arith) ∙ place_in p.w x y r across) in
        ap (λ b. is_within p.w p.h x y && b) at ∙ spread (is_within p.w p.h x y) (is_in r x y) (get_or p.marks (place_of p.w x y) false)
    | inr below ↦ grind (arith, nat_tests, below)
  ]
  | inr right ↦ grind (arith, nat_tests, right)
]
  where
    spread : (a b c : Bool) → (a && (b || c)) ≡ ((a && b) || (a && c))
    spread true b c = refl
    spread false b c = refl

pub has_all : (w h : ℕ) (all : Bool) (x y : ℕ) → has (whole_set w h all) x y ≡ (is_within w h x y && all)
has_all w h all x y = elim (cases_lt x w) [
  | inl across ↦ elim (cases_lt y h) [
    | inl down ↦ ap (λ b. is_within w h x y && b) (all_marked (w * h) (place_of w x y) all (place_below w h x y across down))
    | inr below ↦ grind (arith, nat_tests, below)
  ]
  | inr right ↦ grind (arith, nat_tests, right)
]
