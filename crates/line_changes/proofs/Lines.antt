-- What a line does to the desktop.
use Rattle.std.proofs.Common.{◌≡◌, ℕ, ◌*◌, ◌^◌, ◌≤◌, ◌<◌, Bool, true, false, Some, None, List, [], ◌∷◌, cond, eqb, length, refl, sym, subst, arith}
use Rattle.std.specs.Prelude.{Option, IsSomeAnd, All, is_some}
use Rattle.std.proofs.lemmas.List.Elements.{All-head, All-tail}
use Rattle.xp_base.specs.Points.{Rectangle, IsRectangle, LiesIn, area}
use Rattle.xp_base.specs.KeyedLaws.{KeyedFinds}
use Rattle.window_model.specs.Drawing.{cropped, put_at}
use Rattle.window_model.specs.Generator.{noise}
use Rattle.window_model.specs.Desktop.{Window, IsWindow, IsDesktop, find_window, changed_window, filled_window, placed_window}
use Rattle.window_model.specs.Laws.{FilledShows, PlacedShows, DrawnSizes}
use Rattle.script_lines.specs.declared.paint.Paint.{Paint}
use Rattle.script_lines.specs.declared.paint.Paint.TheVariants.{Open, Close, Fill, Copy, Noise, Resize, Move, Raise}
use Rattle.paint_script.specs.Painting.{rectangle, painted}
use Rattle.paint_script.specs.Validity.{IsPaintOn, IsCopyOn}
use Rattle.client_delivery.specs.Keeping.{IsPainted}
use Rattle.attached_client.specs.declared.change.Change.{Change}
use Rattle.attached_client.specs.declared.change.Change.TheVariants as C
use Rattle.attached_client.specs.Desktops.{DeskChanges, PaintsOn}
use Rattle.line_changes.specs.Changes.{IsChangeOf, geometry}
use Rattle.line_changes.specs.Laws.{LineChanges}
use Rattle.line_changes.proofs.Pixels.{is_filled, is_placed}

-- a window that is there, and is such
record Found (o : Option Window) (P : Window → Type 0) : Type 0 where
  window : Window
  found : o ≡ Some window
  fits : P window

found_in : (o : Option Window) (P : Window → Type 0) → IsSomeAnd o P → Found o P
found_in None P is = absurd is
found_in (Some window) P is = record { window = window; found = refl; fits = is }

found_there : (o : Option Window) → is_some o ≡ true → Found o (λ window. Unit {0})
found_there None is = absurd (cc is)
found_there (Some window) is = record { window = window; found = refl; fits = tt }

-- a window that is found is one of the desktop's
pub found_is : (desk : List Window) (k : ℕ) (window : Window) → All IsWindow desk → find_window desk k ≡ Some window → IsWindow window
found_is [] k window all found = absurd (cc found)
found_is (w ∷ desk) k window all found = go (eqb w.wid k) found (λ below. found_is desk k window (All-tail IsWindow w desk all) below)
  where
    go : (b : Bool) → cond b (Some w) (find_window desk k) ≡ Some window → (find_window desk k ≡ Some window → IsWindow window) → IsWindow window
    go true found later = let same : w ≡ window = cc found in subst IsWindow same (All-head IsWindow w desk all)
    go false found later = later found

-- the target of a copy is a rectangle
pub copy_target : (desk : List Window) (wid : ℕ) (r : Rectangle) (tx ty : ℕ) → IsDesktop desk → IsCopyOn desk wid r tx ty → IsRectangle (put_at tx ty r)
copy_target desk wid r tx ty desktop on =
    let it = found_in (find_window desk wid) (λ window. LiesIn window.w window.h (put_at tx ty r)) on.target in
    let window = found_is desk wid it.window desktop.windows it.found in
    record { wide = on.some.wide; high = on.some.high; across = omega (arith, it.fits.across, window.wide.most); down = omega (arith, it.fits.down, window.high.most) }

module _ (finds : KeyedFinds Window) (fills : FilledShows) (places : PlacedShows) (sizes : DrawnSizes) where
  -- a window is painted in a rectangle of it
  paints : (desk : List Window) (k : ℕ) (r : Rectangle) (change : Window → Window) → IsDesktop desk → IsSomeAnd (find_window desk k) (λ window. LiesIn window.w window.h r)
      → ((window : Window) → length window.pixels ≡ window.w * window.h → IsPainted r window (change window)) → PaintsOn k r desk (changed_window desk k change)
  paints desk k r change desktop inside painted =
      let it = found_in (find_window desk k) (λ window. LiesIn window.w window.h r) inside in
      record {
        window = it.window;
        found = it.found;
        lies = it.fits;
        window' = change it.window;
        painted = painted it.window (found_is desk k it.window desktop.windows it.found).sized;
        is = finds.alike (λ (w : Window). w.wid) desk k it.window change (λ (w : Window). change it.window) desktop.distinct it.found refl;
      }

  places_on : (desk : List Window) (k : ℕ) (r : Rectangle) (numbers : List ℕ) → IsDesktop desk → IsSomeAnd (find_window desk k) (λ window. LiesIn window.w window.h r) → length numbers ≡ area r
      → PaintsOn k r desk (changed_window desk k (placed_window r numbers))
  places_on desk k r numbers desktop inside counted = paints desk k r (placed_window r numbers) desktop inside (λ window sized. is_placed sizes places r numbers window sized counted)

  copies_on : (desk : List Window) (k : ℕ) (r : Rectangle) (tx ty : ℕ) → IsDesktop desk → IsSomeAnd (find_window desk k) (λ window. LiesIn window.w window.h (put_at tx ty r))
      → PaintsOn k (put_at tx ty r) desk (changed_window desk k (λ w. placed_window (put_at tx ty r) (cropped w.w r w.pixels) w))
  copies_on desk k r tx ty desktop inside =
      paints desk k (put_at tx ty r) (λ w. placed_window (put_at tx ty r) (cropped w.w r w.pixels) w) desktop inside
      (λ window sized. is_placed sizes places (put_at tx ty r) (cropped window.w r window.pixels) window sized (sizes.cropping window.w r window.pixels))

  pub line_changes : LineChanges
  line_changes desk line change desktop on is = go line on is
    where
      with_change : (line : Paint) (other : Change) → change ≡ other → DeskChanges other desk (painted desk line) → DeskChanges change desk (painted desk line)
      with_change line other same changes = subst (λ (c : Change). DeskChanges c desk (painted desk line)) (sym same) changes

      go : (line : Paint) → IsPaintOn desk line → IsChangeOf desk line change → DeskChanges change desk (painted desk line)
      go (Open wid x y w h) on is = with_change (Open wid x y w h) (C.Opened (geometry wid x y w h)) is (record {
        geometry = record { first = on.first; last = on.last; across = on.across; down = on.down; wide = on.wide; high = on.high };
        new = on.new;
        is = refl;
      })
      go (Close wid) on is =
          let it = found_there (find_window desk wid) on in
          with_change (Close wid) (C.Closed wid) is (record { window = it.window; found = it.found; is = refl })
      go (Fill wid x y w h c) on is = with_change (Fill wid x y w h c) (C.Damaged wid (rectangle x y w h)) is
          (paints desk wid (rectangle x y w h) (filled_window (rectangle x y w h) c) desktop on.inside (λ window sized. is_filled sizes fills (rectangle x y w h) c window sized))
      go (Copy wid x y w h tx ty) on is = with_change (Copy wid x y w h tx ty) (C.Damaged wid (rectangle tx ty w h)) is (copies_on desk wid (rectangle x y w h) tx ty desktop on.target)
      go (Noise wid x y w h seed) on is = with_change (Noise wid x y w h seed) (C.Damaged wid (rectangle x y w h)) is
          (places_on desk wid (rectangle x y w h) (noise seed (area (rectangle x y w h))) desktop on.inside (sizes.generating seed (area (rectangle x y w h))))
      go (Resize wid w h) on is =
          let it = found_in (find_window desk wid) (λ window. change ≡ C.Resized (geometry wid window.x window.y w h)) is in
          let window = found_is desk wid it.window desktop.windows it.found in
          let named = finds.found (λ (w : Window). w.wid) desk wid it.window it.found in
          with_change (Resize wid w h) (C.Resized (geometry wid it.window.x it.window.y w h)) it.fits (record {
            geometry = record { first = subst (λ (k : ℕ). 1 ≤ k) named window.first; last = subst (λ (k : ℕ). k < 2 ^ 16) named window.last; across = window.across; down = window.down; wide = on.wide; high = on.high };
            window = it.window;
            found = it.found;
            across = refl;
            down = refl;
            is = refl;
          })
      go (Move wid x y) on is =
          let it = found_in (find_window desk wid) (λ window. change ≡ C.Moved (geometry wid x y window.w window.h)) is in
          let window = found_is desk wid it.window desktop.windows it.found in
          let named = finds.found (λ (w : Window). w.wid) desk wid it.window it.found in
          with_change (Move wid x y) (C.Moved (geometry wid x y it.window.w it.window.h)) it.fits (record {
            geometry = record { first = subst (λ (k : ℕ). 1 ≤ k) named window.first; last = subst (λ (k : ℕ). k < 2 ^ 16) named window.last; across = on.across; down = on.down; wide = window.wide; high = window.high };
            window = it.window;
            found = it.found;
            wide = refl;
            high = refl;
            is = refl;
          })
      go (Raise wid) on is =
          let it = found_there (find_window desk wid) on in
          with_change (Raise wid) (C.Raised wid) is (record { window = it.window; found = it.found; is = refl })
