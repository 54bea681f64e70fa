-- Marks of a rectangle's rows, one row at a time.
use Rattle.std.proofs.Common.{◌≡◌, inl, inr, ℕ, ◌+◌, ◌-◌, ◌*◌, ◌/◌, ◌%◌, ◌<◌, ◌≤◌, suc, Bool, false, ◌&&◌, ◌||◌, List, [], ◌∷◌, length, get_or, refl, ap, ◌∙◌, arith, min, ltb, leb}
use Rattle.std.proofs.Math.Nat.{mul-le-mul_right}
use Rattle.std.proofs.lemmas.Nat.{mod_below, div-add-mod'}
use Rattle.std.proofs.lemmas.Bool.{cases_lt}
use Rattle.std.proofs.lemmas.Bool.Decides.{nat_tests}
use Rattle.xp_base.specs.Points.{Rectangle}
use Rattle.xp_base.specs.Grid.{is_place_in}
use Rattle.window_model.proofs.Places.{run_row, some_width}
use Rattle.client_connection.specs.PointSets.{marked_from}

-- one row more
pub one_row_marked : (w : ℕ) (r : Rectangle) (i k : ℕ) → 0 < w → r.x + r.w ≤ w → (was : Bool)
    → ((leb ((r.y + i) * w + r.x) k && ltb k ((r.y + i) * w + r.x + r.w)) || (is_place_in w (record r { h = i }) k || was))
    ≡ (is_place_in w (record r { h = i + 1 }) k || was)
one_row_marked w r i k some across was = rw (run_row w r.x r.w (r.y + i) k some across) (grind (arith, nat_tests))

-- a place of a window is in one of its rows
pub row_below : (w h k : ℕ) → k < w * h → k / w < h
row_below w h k within = elim (cases_lt (k / w) h) [
  | inl below ↦ below
  | inr past ↦
      let more : h * w ≤ (k / w) * w = mul-le-mul_right w past in
      let is : (k / w) * w + k % w ≡ k = div-add-mod' k w in
      let same : w * h ≡ h * w = grind arith in
      absurd (omega (arith, more, is, same))
]

-- in a window, a rectangle and what of it lies in the window have the same places
pub same_clipped : (w h : ℕ) (r : Rectangle) (k : ℕ) → k < w * h → k / w < h
    → is_place_in w (record { x = min r.x w; y = min r.y h; w = min (r.x + r.w) w - min r.x w; h = min (r.y + r.h) h - min r.y h }) k ≡ is_place_in w r k
same_clipped w h r k within down =
    let column : k % w < w = mod_below k w (some_width w h k within) in
    plain (k % w) (k / w) column down
  where
    plain : (x y : ℕ) → x < w → y < h
        → ((leb (min r.x w) x && ltb x (min r.x w + (min (r.x + r.w) w - min r.x w))) && (leb (min r.y h) y && ltb y (min r.y h + (min (r.y + r.h) h - min r.y h))))
        ≡ ((leb r.x x && ltb x (r.x + r.w)) && (leb r.y y && ltb y (r.y + r.h)))
    plain x y left top = grind (arith, nat_tests)

-- the marks, each by its place, are the list of marks
pub marked_each : (w : ℕ) (r : Rectangle) (from : ℕ) (old new : List Bool) → length new ≡ length old
    → ((k : ℕ) → k < length old → get_or new k false ≡ (is_place_in w r (from + k) || get_or old k false)) → new ≡ marked_from w r from old
marked_each w r from [] [] sized each = refl
marked_each w r from [] (x ∷ new) sized each = absurd (omega (arith, sized))
marked_each w r from (o ∷ old) [] sized each = absurd (omega (arith, sized))
marked_each w r from (o ∷ old) (x ∷ new) sized each =
    let head : x ≡ (is_place_in w r from || o) = each 0 (omega arith) ∙ ap (λ n. is_place_in w r n || o) (omega arith) in
    let tail : new ≡ marked_from w r (from + 1) old = marked_each w r (from + 1) old new (omega (arith, sized)) (λ k low. each (suc k) (omega arith) ∙ ap (λ n. is_place_in w r n || get_or old k false) (omega arith)) in
    ap (λ y. y ∷ new) head ∙ ap (λ ys. (is_place_in w r from || o) ∷ ys) tail
