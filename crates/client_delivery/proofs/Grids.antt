-- A window's pixels as the model's grid.
use Rattle.std.proofs.Common.{◌≡◌, ℕ, ◌+◌, ◌*◌, ◌<◌, Bool, true, false, Option, Some, None, List, get_or, length, cond, refl, sym, ap, ◌∙◌, arith}
use Rattle.std.specs.Prelude.{slice_get}
use Rattle.std.proofs.lemmas.Bool.{cond-true, cond-false}
use Rattle.std.proofs.lemmas.Bool.Decides.{nat_tests}
use Rattle.std.proofs.lemmas.Option.{slice_get-get_or}
use Rattle.std.proofs.lemmas.Nat.{mul-add-lt}
use Rattle.xp_base.specs.Points.{Rectangle, is_in, is_within}
use Rattle.xp_base.specs.Grid.{place_of, number_at}
use Rattle.window_model.specs.Drawing.{resized}
use Rattle.window_model.specs.Laws.{ResizedShows}
use Rattle.delivery_model.specs.Grids.{Grid, grid, number}
use Rattle.delivery_model.specs.Events.{desk_resized, painted}
use Rattle.delivery_model.specs.Laws.{GridNumbers}

pub some_same : {A : Type 0} (x y : A) → Some x ≡ Some y → x ≡ y
some_same x y is = cc is

abbrev pub pixels_grid : ℕ → ℕ → List ℕ → Grid
pixels_grid wide high numbers = record { wide = wide; high = high; numbers = numbers }

number_is : (wide high : ℕ) (numbers : List ℕ) (x y : ℕ) → number (pixels_grid wide high numbers) x y ≡ get_or numbers (place_of wide x y) 0
unfolding number
number_is wide high numbers x y = refl

pub place_below : (w h x y : ℕ) → is_within w h x y ≡ true → place_of w x y < w * h
place_below w h x y within = let bounds : (x < w) × (y < h) = grind (arith, nat_tests) in mul-add-lt y w x h bounds.1 bounds.0

pub number_at_is : (wide high : ℕ) (numbers : List ℕ) (x y : ℕ) → length numbers ≡ wide * high → is_within wide high x y ≡ true
    → number_at wide high numbers x y ≡ Some (number (pixels_grid wide high numbers) x y)
number_at_is wide high numbers x y sized within =
    cond-true (is_within wide high x y) (slice_get numbers (place_of wide x y)) None within
    ∙ slice_get-get_or numbers (place_of wide x y) 0 (let low = place_below wide high x y within in omega (arith, sized, low))
    ∙ ap (λ n. Some n) (sym (number_is wide high numbers x y))

-- the desktop's window and the model's have the same numbers after a resize
pub resized_numbers : ResizedShows → GridNumbers → (w0 h0 w h : ℕ) (pixels : List ℕ) (x y : ℕ) → length pixels ≡ w0 * h0 → length (resized w0 h0 w h pixels) ≡ w * h → is_within w h x y ≡ true
    → number (pixels_grid w h (resized w0 h0 w h pixels)) x y ≡ number (desk_resized w h (pixels_grid w0 h0 pixels)) x y
resized_numbers shows numbers w0 h0 w h pixels x y sized resized_sized within =
    some_same _ _ (sym (number_at_is w h (resized w0 h0 w h pixels) x y resized_sized within) ∙ shows w0 h0 w h pixels x y sized within ∙ go (is_within w0 h0 x y) refl)
    ∙ sym (numbers w h (λ i j. cond (is_within w0 h0 i j) (number (pixels_grid w0 h0 pixels) i j) 0) x y within)
  where
    go : (b : Bool) → is_within w0 h0 x y ≡ b → cond (is_within w0 h0 x y) (number_at w0 h0 pixels x y) (Some 0) ≡ Some (cond (is_within w0 h0 x y) (number (pixels_grid w0 h0 pixels) x y) 0)
    go true is =
        cond-true (is_within w0 h0 x y) (number_at w0 h0 pixels x y) (Some 0) is ∙ number_at_is w0 h0 pixels x y sized is
        ∙ ap (λ n. Some n) (sym (cond-true (is_within w0 h0 x y) (number (pixels_grid w0 h0 pixels) x y) 0 is))
    go false is =
        cond-false (is_within w0 h0 x y) (number_at w0 h0 pixels x y) (Some 0) is
        ∙ ap (λ n. Some n) (sym (cond-false (is_within w0 h0 x y) (number (pixels_grid w0 h0 pixels) x y) 0 is))

-- and after a paint that changes a rectangle alone
pub painted_numbers : GridNumbers → (r : Rectangle) (wide high : ℕ) (old new : List ℕ) (x y : ℕ) → is_within wide high x y ≡ true
    → (is_in r x y ≡ false → number (pixels_grid wide high new) x y ≡ number (pixels_grid wide high old) x y)
    → number (pixels_grid wide high new) x y ≡ number (painted r new (pixels_grid wide high old)) x y
painted_numbers numbers r wide high old new x y within outside =
    go (is_in r x y) refl ∙ sym (numbers wide high (λ i j. cond (is_in r i j) (get_or new (place_of wide i j) 0) (number (pixels_grid wide high old) i j)) x y within)
  where
    go : (b : Bool) → is_in r x y ≡ b → number (pixels_grid wide high new) x y ≡ cond (is_in r x y) (get_or new (place_of wide x y) 0) (number (pixels_grid wide high old) x y)
    go true is = number_is wide high new x y ∙ sym (cond-true (is_in r x y) (get_or new (place_of wide x y) 0) (number (pixels_grid wide high old) x y) is)
    go false is = outside is ∙ sym (cond-false (is_in r x y) (get_or new (place_of wide x y) 0) (number (pixels_grid wide high old) x y) is)
