-- Drawing keeps a window.
use Rattle.std.proofs.Common.{◌≡◌, ℕ, ◌^◌, ◌<◌, ◌≤◌, List, length, ◌∙◌}
use Rattle.std.specs.Prelude.{ℤ}
use Rattle.std.specs.List.{All}
use Rattle.xp_base.specs.Points.{Rectangle}
use Rattle.window_model.specs.Drawing.{filled, placed, copied}
use Rattle.window_model.specs.Desktop.{Window, IsWindow, IsSide, IsPlace, fresh_window, filled_window, placed_window, moved_window, resized_window, copied_window}
use Rattle.window_model.proofs.Drawings.{IsColour, length-blank, All-blank, length-filled, All-filled, length-placed, All-placed, length-copied, All-copied, length-resized, All-resized}

pub IsWindow-fresh : (wid : ℕ) (x y : ℤ) (w h : ℕ) → 1 ≤ wid → wid < 2 ^ 16 → IsPlace x → IsPlace y → IsSide w → IsSide h → IsWindow (fresh_window wid x y w h)
IsWindow-fresh wid x y w h first last across down wide high =
    record { first = first; last = last; across = across; down = down; wide = wide; high = high; sized = length-blank w h; coloured = All-blank w h }

-- a window with other pixels
pub IsWindow-drawn : (window : Window) (pixels : List ℕ) → IsWindow window → length pixels ≡ length window.pixels → All IsColour pixels
    → IsWindow (record window { pixels = pixels })
IsWindow-drawn window pixels is sized coloured =
    record { first = is.first; last = is.last; across = is.across; down = is.down; wide = is.wide; high = is.high; sized = sized ∙ is.sized; coloured = coloured }

pub IsWindow-filled : (window : Window) (r : Rectangle) (colour : ℕ) → IsColour colour → IsWindow window → IsWindow (filled_window r colour window)
IsWindow-filled window r colour small is =
    IsWindow-drawn window (filled window.w r colour window.pixels) is (length-filled window.w r colour window.pixels) (All-filled window.w r colour window.pixels small is.coloured)

pub IsWindow-placed : (window : Window) (r : Rectangle) (numbers : List ℕ) → All IsColour numbers → IsWindow window → IsWindow (placed_window r numbers window)
IsWindow-placed window r numbers small is =
    IsWindow-drawn window (placed window.w r numbers window.pixels) is (length-placed window.w r numbers window.pixels) (All-placed window.w r numbers window.pixels small is.coloured)

pub IsWindow-copied : (window : Window) (r : Rectangle) (x y : ℕ) → IsWindow window → IsWindow (copied_window r x y window)
IsWindow-copied window r x y is = IsWindow-drawn window (copied window.w r x y window.pixels) is (length-copied window.w r x y window.pixels) (All-copied window.w r x y window.pixels is.coloured)

pub IsWindow-moved : (window : Window) (x y : ℤ) → IsPlace x → IsPlace y → IsWindow window → IsWindow (moved_window x y window)
IsWindow-moved window x y across down is =
    record { first = is.first; last = is.last; across = across; down = down; wide = is.wide; high = is.high; sized = is.sized; coloured = is.coloured }

pub IsWindow-resized : (window : Window) (w h : ℕ) → IsSide w → IsSide h → IsWindow window → IsWindow (resized_window w h window)
IsWindow-resized window w h wide high is = record {
  first = is.first;
  last = is.last;
  across = is.across;
  down = is.down;
  wide = wide;
  high = high;
  sized = length-resized window.w window.h w h window.pixels;
  coloured = All-resized window.w window.h w h window.pixels is.coloured;
}
