-- A window's pixels by point, as desktops and as deliveries have them.
use Rattle.std.proofs.Common.{◌≡◌, ℕ, ◌*◌, ◌<◌, true, Some, None, List, get_or, length, refl, sym, ap, ◌∙◌, arith}
use Rattle.std.specs.Prelude.{slice_get}
use Rattle.std.proofs.lemmas.Bool.{cond-true, cond-false}
use Rattle.std.proofs.lemmas.Bool.Decides.{nat_tests}
use Rattle.std.proofs.lemmas.Option.{slice_get-get_or}
use Rattle.std.proofs.lemmas.Nat.{mul-add-lt}
use Rattle.xp_base.specs.Points.{Rectangle, is_in, is_within, area}
use Rattle.xp_base.specs.Grid.{place_of, number_at}
use Rattle.window_model.specs.Desktop.{Window, filled_window, placed_window}
use Rattle.window_model.specs.Drawing.{filled, placed}
use Rattle.window_model.specs.Laws.{FilledShows, PlacedShows, DrawnSizes}
use Rattle.delivery_model.specs.Grids.{Grid, number}
use Rattle.client_delivery.specs.Keeping.{IsPainted}

some_same : (x y : ℕ) → Some x ≡ Some y → x ≡ y
some_same x y is = cc is

abbrev pixels_grid : ℕ → ℕ → List ℕ → Grid
pixels_grid wide high numbers = record { wide = wide; high = high; numbers = numbers }

number_is : (wide high : ℕ) (numbers : List ℕ) (x y : ℕ) → number (pixels_grid wide high numbers) x y ≡ get_or numbers (place_of wide x y) 0
unfolding number
number_is wide high numbers x y = refl

place_below : (w h x y : ℕ) → is_within w h x y ≡ true → place_of w x y < w * h
place_below w h x y within = let bounds : (x < w) × (y < h) = grind (arith, nat_tests) in mul-add-lt y w x h bounds.1 bounds.0

number_at_is : (wide high : ℕ) (numbers : List ℕ) (x y : ℕ) → length numbers ≡ wide * high → is_within wide high x y ≡ true
    → number_at wide high numbers x y ≡ Some (number (pixels_grid wide high numbers) x y)
number_at_is wide high numbers x y sized within =
    cond-true (is_within wide high x y) (slice_get numbers (place_of wide x y)) None within
    ∙ slice_get-get_or numbers (place_of wide x y) 0 (let low = place_below wide high x y within in omega (arith, sized, low))
    ∙ ap (λ (n : ℕ). Some n) (sym (number_is wide high numbers x y))

-- a point that shows what it showed has the number that it had
same_number : (w h : ℕ) (old new : List ℕ) (x y : ℕ) → length old ≡ w * h → length new ≡ w * h → is_within w h x y ≡ true → number_at w h new x y ≡ number_at w h old x y
    → number (pixels_grid w h new) x y ≡ number (pixels_grid w h old) x y
same_number w h old new x y old_sized new_sized within same =
    some_same _ _ (sym (number_at_is w h new x y new_sized within) ∙ same ∙ number_at_is w h old x y old_sized within)

module _ (sizes : DrawnSizes) where
  pub is_filled : FilledShows → (r : Rectangle) (colour : ℕ) (window : Window) → length window.pixels ≡ window.w * window.h → IsPainted r window (filled_window r colour window)
  is_filled shows r colour window sized = record {
    same = refl;
    sized = filled_sized;
    outside = λ x y within out. same_number window.w window.h window.pixels _ x y sized filled_sized within
        (shows window.w window.h r colour window.pixels x y sized within ∙ cond-false (is_in r x y) (Some colour) (number_at window.w window.h window.pixels x y) out);
  }
    where
      filled_sized : length (filled window.w r colour window.pixels) ≡ window.w * window.h
      filled_sized = sizes.filling window.w r colour window.pixels ∙ sized

  pub is_placed : PlacedShows → (r : Rectangle) (numbers : List ℕ) (window : Window) → length window.pixels ≡ window.w * window.h → length numbers ≡ area r → IsPainted r window (placed_window r numbers window)
  is_placed shows r numbers window sized counted = record {
    same = refl;
    sized = placed_sized;
    outside = λ x y within out. same_number window.w window.h window.pixels _ x y sized placed_sized within
        (shows window.w window.h r numbers window.pixels x y sized counted within ∙ cond-false (is_in r x y) (number_at r.w r.h numbers _ _) (number_at window.w window.h window.pixels x y) out);
  }
    where
      placed_sized : length (placed window.w r numbers window.pixels) ≡ window.w * window.h
      placed_sized = sizes.placing window.w r numbers window.pixels ∙ sized
