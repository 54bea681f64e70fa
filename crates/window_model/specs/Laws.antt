-- What the definitions of drawing and of the desktop come to, point by point and window by window.
use Rattle.std.specs.Prelude.{ℕ, ◌+◌, ◌-◌, ◌*◌, ◌^◌, ◌<◌, ◌≡◌, ◌==◌, not, ℤ, true, false, Some, None, List, [], ◌∷◌, ◌++◌, length, map, filter, All, if◌then◌else◌}
use Rattle.std.specs.Option.{option_map}
use Rattle.xp_base.specs.Points.{Rectangle, LiesIn, is_in, is_within, whole, area}
use Rattle.xp_base.specs.Grid.{number_at}
use Rattle.window_model.specs.Drawing.{blank, filled, placed, cropped, copied, resized, put_at}
use Rattle.window_model.specs.Generator.{noise}
use Rattle.window_model.specs.Desktop.{Window, IsWindow, IsSide, IsPlace, IsDesktop, find_window, has_window, changed_window, fresh_window, opened, filled_on, placed_on, without_window, raised, moved_on, resized_on, copied_on, noised_on}

-- each point of a new window shows 0
abbrev pub BlankShows : Type 0
BlankShows = (w h x y : ℕ) → is_within w h x y ≡ true → number_at w h (blank w h) x y ≡ Some 0

-- a point of a filled window shows the colour in the rectangle, and what it showed elsewhere
abbrev pub FilledShows : Type 0
FilledShows = (w h : ℕ) (r : Rectangle) (colour : ℕ) (pixels : List ℕ) (x y : ℕ)
    → length pixels ≡ w * h → is_within w h x y ≡ true
    → number_at w h (filled w r colour pixels) x y ≡ (if is_in r x y then Some colour else number_at w h pixels x y)

-- a point shows the numbers put in the rectangle, and what it showed elsewhere
abbrev pub PlacedShows : Type 0
PlacedShows = (w h : ℕ) (r : Rectangle) (numbers pixels : List ℕ) (x y : ℕ)
    → length pixels ≡ w * h → length numbers ≡ area r → is_within w h x y ≡ true
    → number_at w h (placed w r numbers pixels) x y ≡ (if is_in r x y then number_at r.w r.h numbers (x - r.x) (y - r.y) else number_at w h pixels x y)

-- a point of the cropped rectangle shows what the window shows there
abbrev pub CroppedShows : Type 0
CroppedShows = (w h : ℕ) (r : Rectangle) (pixels : List ℕ) (x y : ℕ)
    → length pixels ≡ w * h → LiesIn w h r → is_within r.w r.h x y ≡ true
    → number_at r.w r.h (cropped w r pixels) x y ≡ number_at w h pixels (r.x + x) (r.y + y)

-- a point of the target shows what the rectangle's point showed before, and every other what it showed
abbrev pub CopiedShows : Type 0
CopiedShows = (w h : ℕ) (r : Rectangle) (tx ty : ℕ) (pixels : List ℕ) (x y : ℕ)
    → length pixels ≡ w * h → LiesIn w h r → LiesIn w h (put_at tx ty r) → is_within w h x y ≡ true
    → number_at w h (copied w r tx ty pixels) x y ≡ (if is_in (put_at tx ty r) x y then number_at w h pixels (r.x + (x - tx)) (r.y + (y - ty)) else number_at w h pixels x y)

-- a point that the smaller size had as well shows what it showed, and a new one 0
abbrev pub ResizedShows : Type 0
ResizedShows = (w0 h0 w h : ℕ) (pixels : List ℕ) (x y : ℕ)
    → length pixels ≡ w0 * h0 → is_within w h x y ≡ true
    → number_at w h (resized w0 h0 w h pixels) x y ≡ (if is_within w0 h0 x y then number_at w0 h0 pixels x y else Some 0)

-- how many numbers each makes
pub record DrawnSizes : Type 0 where
  pub fresh : (w h : ℕ) → length (blank w h) ≡ w * h
  pub filling : (wide : ℕ) (r : Rectangle) (colour : ℕ) (pixels : List ℕ) → length (filled wide r colour pixels) ≡ length pixels
  pub placing : (wide : ℕ) (r : Rectangle) (numbers pixels : List ℕ) → length (placed wide r numbers pixels) ≡ length pixels
  pub cropping : (wide : ℕ) (r : Rectangle) (pixels : List ℕ) → length (cropped wide r pixels) ≡ area r
  pub copying : (wide : ℕ) (r : Rectangle) (x y : ℕ) (pixels : List ℕ) → length (copied wide r x y pixels) ≡ length pixels
  pub resizing : (w0 h0 w h : ℕ) (pixels : List ℕ) → length (resized w0 h0 w h pixels) ≡ w * h
  pub generating : (state count : ℕ) → length (noise state count) ≡ count

-- the whole of a window, cropped and put
pub record DrawnWhole : Type 0 where
  pub cropping : (w h : ℕ) (pixels : List ℕ) → length pixels ≡ w * h → cropped w (whole w h) pixels ≡ pixels
  pub placing : (w h : ℕ) (numbers pixels : List ℕ) → length pixels ≡ w * h → length numbers ≡ w * h → placed w (whole w h) numbers pixels ≡ numbers

-- where a window was opened, the new one is found by its number, and the others as before
abbrev pub OpenedFinds : Type 0
OpenedFinds = (desk : List Window) (wid : ℕ) (x y : ℤ) (w h k : ℕ) → has_window desk wid ≡ false
    → find_window (opened desk wid x y w h) k ≡ (if k == wid then Some (fresh_window wid x y w h) else find_window desk k)

-- where a window was changed and kept its number, it is found changed, and the others as before
abbrev pub ChangedFinds : Type 0
ChangedFinds = (desk : List Window) (wid : ℕ) (change : Window → Window) (k : ℕ) → ((window : Window) → (change window).wid ≡ window.wid)
    → find_window (changed_window desk wid change) k ≡ (if k == wid then option_map change (find_window desk k) else find_window desk k)

-- where a window went it is not found, and the others as before
abbrev pub RemovedFinds : Type 0
RemovedFinds = (desk : List Window) (wid k : ℕ) → find_window (without_window desk wid) k ≡ (if k == wid then None else find_window desk k)

-- where a window was raised each is found as before
abbrev pub RaisedFinds : Type 0
RaisedFinds = (desk : List Window) (wid k : ℕ) → find_window (raised desk wid) k ≡ find_window desk k

-- the windows' numbers from bottom to top, after each effect
pub record NumbersKept : Type 0 where
  pub opening : (desk : List Window) (wid : ℕ) (x y : ℤ) (w h : ℕ)
      → map (λ window. window.wid) (opened desk wid x y w h) ≡ map (λ window. window.wid) desk ++ wid ∷ []
  pub changing : (desk : List Window) (wid : ℕ) (change : Window → Window) → ((window : Window) → (change window).wid ≡ window.wid)
      → map (λ window. window.wid) (changed_window desk wid change) ≡ map (λ window. window.wid) desk
  pub removing : (desk : List Window) (wid : ℕ)
      → map (λ window. window.wid) (without_window desk wid) ≡ filter (λ n. not (n == wid)) (map (λ window. window.wid) desk)
  pub raising : (desk : List Window) (wid : ℕ) → has_window desk wid ≡ true
      → map (λ window. window.wid) (raised desk wid) ≡ filter (λ n. not (n == wid)) (map (λ window. window.wid) desk) ++ wid ∷ []

-- the effects keep a desktop
pub record EffectsKeep : Type 0 where
  pub opening : (desk : List Window) (wid : ℕ) (x y : ℤ) (w h : ℕ) → IsDesktop desk → has_window desk wid ≡ false
      → IsWindow (fresh_window wid x y w h) → IsDesktop (opened desk wid x y w h)
  pub filling : (desk : List Window) (wid : ℕ) (r : Rectangle) (colour : ℕ) → IsDesktop desk → colour < 2 ^ 24 → IsDesktop (filled_on desk wid r colour)
  pub placing : (desk : List Window) (wid : ℕ) (r : Rectangle) (numbers : List ℕ) → IsDesktop desk → All (λ n. n < 2 ^ 24) numbers → IsDesktop (placed_on desk wid r numbers)
  pub removing : (desk : List Window) (wid : ℕ) → IsDesktop desk → IsDesktop (without_window desk wid)
  pub raising : (desk : List Window) (wid : ℕ) → IsDesktop desk → IsDesktop (raised desk wid)
  pub moving : (desk : List Window) (wid : ℕ) (x y : ℤ) → IsDesktop desk → IsPlace x → IsPlace y → IsDesktop (moved_on desk wid x y)
  pub resizing : (desk : List Window) (wid w h : ℕ) → IsDesktop desk → IsSide w → IsSide h → IsDesktop (resized_on desk wid w h)
  pub copying : (desk : List Window) (wid : ℕ) (r : Rectangle) (x y : ℕ) → IsDesktop desk → IsDesktop (copied_on desk wid r x y)
  pub noising : (desk : List Window) (wid : ℕ) (r : Rectangle) (seed : ℕ) → IsDesktop desk → IsDesktop (noised_on desk wid r seed)
