-- What drawing makes, point by point.
use Rattle.std.proofs.Common.{◌≡◌, ℕ, ◌+◌, ◌-◌, ◌*◌, ◌/◌, ◌%◌, ◌<◌, Bool, true, false, Some, None, List, length, get_or, cond, refl, sym, ap, ◌∙◌, arith}
use Rattle.std.proofs.Math.Nat.{mul_comm}
use Rattle.std.specs.List.{slice_get}
use Rattle.std.proofs.lemmas.Nat.{mul-add-lt, div-mul-add, mod-mul-add, mod_below, div_below, div-add-mod'}
use Rattle.std.proofs.lemmas.Bool.{cond-true}
use Rattle.std.proofs.lemmas.Bool.Decides.{nat_tests}
use Rattle.std.proofs.lemmas.Option.{slice_get-get_or}
use Rattle.std.proofs.lemmas.List.{same_lists, get_or_default}
use Rattle.window_model.proofs.Places.{some_width}
use Rattle.xp_base.specs.Points.{Rectangle, is_in, is_within, whole, survives}
use Rattle.xp_base.specs.Grid.{number_at, place_of, is_place_in}
use Rattle.window_model.specs.Drawing.{blank, filled, placed, cropped, resized, put_at, place_within, place_without}
use Rattle.window_model.specs.Laws.{BlankShows, FilledShows, PlacedShows, CroppedShows, CopiedShows, ResizedShows, DrawnSizes, DrawnWhole}
use Rattle.window_model.proofs.Drawings.{length-blank, get_or-blank, length-filled, get_or-filled, length-placed, get_or-placed, length-cropped, get_or-cropped, length-copied, length-resized, get_or-resized, length-noise}

-- a point of the window has a place in its list
pub place_below : (w h x y : ℕ) → is_within w h x y ≡ true → place_of w x y < w * h
place_below w h x y within =
    let bounds : (x < w) × (y < h) = grind (arith, nat_tests) in mul-add-lt y w x h bounds.1 bounds.0

-- the number at a point is the one at its place
pub number_at-inside : (w h : ℕ) (numbers : List ℕ) (x y : ℕ) → length numbers ≡ w * h → is_within w h x y ≡ true
    → number_at w h numbers x y ≡ Some (get_or numbers (place_of w x y) 0)
number_at-inside w h numbers x y sized within =
    cond-true (is_within w h x y) (slice_get numbers (place_of w x y)) None within
    ∙ slice_get-get_or numbers (place_of w x y) 0 (omega (arith, sized, place_below w h x y within))

-- the column and the row of a point's place
pub place_parts : (w h x y : ℕ) → is_within w h x y ≡ true → (place_of w x y % w ≡ x) × (place_of w x y / w ≡ y)
place_parts w h x y within =
    let bound : x < w = grind (arith, nat_tests) in (mod-mul-add y w x bound, div-mul-add y w x bound)

pub blank_shows_lem : BlankShows
blank_shows_lem w h x y within =
    number_at-inside w h (blank w h) x y (length-blank w h) within
    ∙ ap Some (get_or-blank w h (place_of w x y) (place_below w h x y within))

-- a place is in the rectangle where its point is
pub is_place_in-at : (w h : ℕ) (r : Rectangle) (x y : ℕ) → is_within w h x y ≡ true → is_place_in w r (place_of w x y) ≡ is_in r x y
is_place_in-at w h r x y within =
    let parts = place_parts w h x y within in
    ap (λ z. is_in r z (place_of w x y / w)) parts.0 ∙ ap (λ z. is_in r x z) parts.1

-- `Some` of a choice
pub Some-cond : (b : Bool) (m n : ℕ) → Some (cond b m n) ≡ cond b (Some m) (Some n)
Some-cond true m n = refl
Some-cond false m n = refl

pub filled_shows_lem : FilledShows
filled_shows_lem w h r colour pixels x y sized within =
    let k = place_of w x y in
    number_at-inside w h (filled w r colour pixels) x y (length-filled w r colour pixels ∙ sized) within
    ∙ ap Some (get_or-filled w r colour pixels k (omega (arith, sized, place_below w h x y within)))
    ∙ Some-cond (is_place_in w r k) colour (get_or pixels k 0)
    ∙ ap (λ z. cond z (Some colour) (Some (get_or pixels k 0))) (is_place_in-at w h r x y within)
    ∙ ap (cond (is_in r x y) (Some colour)) (sym (number_at-inside w h pixels x y sized within))

-- a choice whose first part matters only where the test holds
pub cond_same : {X : Type 0} (b : Bool) (one two rest : X) → (b ≡ true → one ≡ two) → cond b one rest ≡ cond b two rest
cond_same true one two rest h = h refl
cond_same false one two rest h = refl

pub placed_shows_lem : PlacedShows
placed_shows_lem w h r numbers pixels x y sized full within =
    let k = place_of w x y in
    let parts = place_parts w h x y within in
    let here : is_in r x y ≡ true → Some (get_or numbers (place_within w r k) 0) ≡ number_at r.w r.h numbers (x - r.x) (y - r.y) =
    λ inside.
    let shifted : is_within r.w r.h (x - r.x) (y - r.y) ≡ true = grind (arith, nat_tests) in
    ap (λ z. Some (get_or numbers (place_of r.w (z - r.x) (k / w - r.y)) 0)) parts.0
    ∙ ap (λ z. Some (get_or numbers (place_of r.w (x - r.x) (z - r.y)) 0)) parts.1
    ∙ sym (number_at-inside r.w r.h numbers (x - r.x) (y - r.y) full shifted) in
    number_at-inside w h (placed w r numbers pixels) x y (length-placed w r numbers pixels ∙ sized) within
    ∙ ap Some (get_or-placed w r numbers pixels k (omega (arith, sized, place_below w h x y within)))
    ∙ Some-cond (is_place_in w r k) (get_or numbers (place_within w r k) 0) (get_or pixels k 0)
    ∙ ap (λ z. cond z (Some (get_or numbers (place_within w r k) 0)) (Some (get_or pixels k 0))) (is_place_in-at w h r x y within)
    ∙ ap (cond (is_in r x y) (Some (get_or numbers (place_within w r k) 0))) (sym (number_at-inside w h pixels x y sized within))
    ∙ cond_same (is_in r x y) (Some (get_or numbers (place_within w r k) 0)) (number_at r.w r.h numbers (x - r.x) (y - r.y)) (number_at w h pixels x y) here

pub cropped_shows_lem : CroppedShows
cropped_shows_lem w h r pixels x y sized lies within =
    let k = place_of r.w x y in
    let parts = place_parts r.w r.h x y within in
    let inside : is_within w h (r.x + x) (r.y + y) ≡ true = grind (arith, nat_tests, lies.across, lies.down) in
    number_at-inside r.w r.h (cropped w r pixels) x y (length-cropped w r pixels) within
    ∙ ap Some (get_or-cropped w r pixels k (place_below r.w r.h x y within))
    ∙ ap (λ z. Some (get_or pixels (place_of w (r.x + z) (r.y + k / r.w)) 0)) parts.0
    ∙ ap (λ z. Some (get_or pixels (place_of w (r.x + x) (r.y + z)) 0)) parts.1
    ∙ sym (number_at-inside w h pixels (r.x + x) (r.y + y) sized inside)

pub copied_shows_lem : CopiedShows
copied_shows_lem w h r tx ty pixels x y sized lies target within =
    let to : Rectangle = put_at tx ty r in
    let here : is_in to x y ≡ true → number_at r.w r.h (cropped w r pixels) (x - tx) (y - ty) ≡ number_at w h pixels (r.x + (x - tx)) (r.y + (y - ty)) =
    λ inside.
    let shifted : is_within r.w r.h (x - tx) (y - ty) ≡ true = grind (arith, nat_tests) in
    cropped_shows_lem w h r pixels (x - tx) (y - ty) sized lies shifted in
    placed_shows_lem w h to (cropped w r pixels) pixels x y sized (length-cropped w r pixels) within
    ∙ cond_same (is_in to x y) (number_at r.w r.h (cropped w r pixels) (x - tx) (y - ty)) (number_at w h pixels (r.x + (x - tx)) (r.y + (y - ty))) (number_at w h pixels x y) here

pub resized_shows_lem : ResizedShows
resized_shows_lem w0 h0 w h pixels x y sized within =
    let k = place_of w x y in
    let parts = place_parts w h x y within in
    let test : survives w0 h0 w h x y ≡ is_within w0 h0 x y = grind (arith, nat_tests) in
    number_at-inside w h (resized w0 h0 w h pixels) x y (length-resized w0 h0 w h pixels) within
    ∙ ap Some (get_or-resized w0 h0 w h pixels k (place_below w h x y within))
    ∙ ap (λ z. Some (cond (survives w0 h0 w h z (k / w)) (get_or pixels (place_of w0 z (k / w)) 0) 0)) parts.0
    ∙ ap (λ z. Some (cond (survives w0 h0 w h x z) (get_or pixels (place_of w0 x z) 0) 0)) parts.1
    ∙ Some-cond (survives w0 h0 w h x y) (get_or pixels (place_of w0 x y) 0) 0
    ∙ ap (λ b. cond b (Some (get_or pixels (place_of w0 x y) 0)) (Some 0)) test
    ∙ cond_same (is_within w0 h0 x y) (Some (get_or pixels (place_of w0 x y) 0)) (number_at w0 h0 pixels x y) (Some 0) (λ inside. sym (number_at-inside w0 h0 pixels x y sized inside))

pub drawn_sizes_lem : DrawnSizes
drawn_sizes_lem = record { fresh = length-blank; filling = length-filled; placing = length-placed; cropping = length-cropped; copying = length-copied; resizing = length-resized; generating = length-noise }

-- the whole of a window holds every place of it
pub is_place_in-whole : (w h k : ℕ) → k < w * h → is_place_in w (whole w h) k ≡ true
is_place_in-whole w h k within =
    let column : k % w < w = mod_below k w (some_width w h k within) in
    let row : k / w < h = div_below k w h (some_width w h k within) (omega (arith, mul_comm w h)) in
    grind (arith, nat_tests, column, row)

pub drawn_whole_lem : DrawnWhole
drawn_whole_lem = record {
  cropping = λ w h pixels sized.
      same_lists (cropped w (whole w h) pixels) pixels (length-cropped w (whole w h) pixels ∙ sym sized)
      (λ k d within.
      let there : k < w * h = omega (arith, length-cropped w (whole w h) pixels) in
      let place : place_without w (whole w h) k ≡ k = omega (arith, div-add-mod' k w) in
      get_or_default (cropped w (whole w h) pixels) k d 0 within
      ∙ get_or-cropped w (whole w h) pixels k there
      ∙ ap (λ z. get_or pixels z 0) place
      ∙ get_or_default pixels k 0 d (omega (arith, sized)));
  placing = λ w h numbers pixels sized full.
      same_lists (placed w (whole w h) numbers pixels) numbers (length-placed w (whole w h) numbers pixels ∙ sized ∙ sym full)
      (λ k d within.
      let there : k < w * h = omega (arith, length-placed w (whole w h) numbers pixels, sized) in
      let row : k / w - 0 ≡ k / w = omega arith in
      let column : k % w - 0 ≡ k % w = omega arith in
      let place : place_within w (whole w h) k ≡ k =
      ap (λ z. z * w + (k % w - 0)) row ∙ ap (λ z. k / w * w + z) column ∙ div-add-mod' k w in
      get_or_default (placed w (whole w h) numbers pixels) k d 0 within
      ∙ get_or-placed w (whole w h) numbers pixels k (omega (arith, sized))
      ∙ cond-true (is_place_in w (whole w h) k) (get_or numbers (place_within w (whole w h) k) 0) (get_or pixels k 0) (is_place_in-whole w h k there)
      ∙ ap (λ z. get_or numbers z 0) place
      ∙ get_or_default numbers k 0 d (omega (arith, full)));
}
