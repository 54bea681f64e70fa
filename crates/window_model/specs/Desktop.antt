-- The desktop: windows from bottom to top, as plain data. This project's own.
use Rattle.std.specs.Prelude.{ℕ, ◌*◌, ◌^◌, ◌≤◌, ◌<◌, ◌≡◌, ℤ, pos, negsuc, ◌≤ℤ◌, Bool, Option, IsSomeAnd, List, length, All}
use Rattle.std.specs.Option.{option_map}
use Rattle.xp_base.specs.Points.{Rectangle, LiesIn, area}
use Rattle.xp_base.specs.Keyed.{HasDistinctKeys, keyed_find, has_key, keyed_push, keyed_change, keyed_remove, keyed_last}
use Rattle.window_model.specs.Drawing.{blank, filled, placed, cropped, copied, resized}
use Rattle.window_model.specs.Generator.{noise}

-- a window: its number, the place of its top left corner on the desktop, its size, and its pixels row by row from the top
pub record Window : Type 0 where
  pub wid : ℕ
  pub x : ℤ
  pub y : ℤ
  pub w : ℕ
  pub h : ℕ
  pub pixels : List ℕ

-- a side that a window may have, in pixels
pub record IsSide (side : ℕ) : Type 0 where
  pub some : 1 ≤ side
  pub most : side ≤ 4096

-- a coordinate that a window may have: -32768 to 32767
pub record IsPlace (place : ℤ) : Type 0 where
  pub least : negsuc 32767 ≤ℤ place
  pub most : place ≤ℤ pos 32767

-- a window as the desktop has them
pub record IsWindow (window : Window) : Type 0 where
  pub first : 1 ≤ window.wid
  pub last : window.wid < 2 ^ 16
  pub across : IsPlace window.x
  pub down : IsPlace window.y
  pub wide : IsSide window.w
  pub high : IsSide window.h
  pub sized : length window.pixels ≡ window.w * window.h
  pub coloured : All (λ n. n < 2 ^ 24) window.pixels

-- the window with this number
abbrev pub find_window : List Window → ℕ → Option Window
find_window desk wid = keyed_find (λ window. window.wid) desk wid

-- there is a window with this number
abbrev pub has_window : List Window → ℕ → Bool
has_window desk wid = has_key (λ window. window.wid) desk wid

-- there is a window with this number, and the rectangle lies in it
abbrev pub IsInWindow : List Window → ℕ → Rectangle → Type 0
IsInWindow desk wid r = IsSomeAnd (find_window desk wid) (λ window. LiesIn window.w window.h r)

-- a desktop: no two windows have one number
pub record IsDesktop (desk : List Window) : Type 0 where
  pub windows : All IsWindow desk
  pub distinct : HasDistinctKeys (λ window. window.wid) desk

-- the window with this number is changed, and the others stay
abbrev pub changed_window : List Window → ℕ → (Window → Window) → List Window
changed_window desk wid change = keyed_change (λ window. window.wid) desk wid change

-- a window as it is opened
abbrev pub fresh_window : ℕ → ℤ → ℤ → ℕ → ℕ → Window
fresh_window wid x y w h = record { wid = wid; x = x; y = y; w = w; h = h; pixels = blank w h }

-- a new window on top
abbrev pub opened : List Window → ℕ → ℤ → ℤ → ℕ → ℕ → List Window
opened desk wid x y w h = keyed_push desk (fresh_window wid x y w h)

-- the window with its rectangle filled
abbrev pub filled_window : Rectangle → ℕ → Window → Window
filled_window r colour window = record window { pixels = filled window.w r colour window.pixels }

-- the rectangle of that window gets the colour
abbrev pub filled_on : List Window → ℕ → Rectangle → ℕ → List Window
filled_on desk wid r colour = changed_window desk wid (filled_window r colour)

-- the window with these numbers, row by row, in its rectangle
abbrev pub placed_window : Rectangle → List ℕ → Window → Window
placed_window r numbers window = record window { pixels = placed window.w r numbers window.pixels }

-- the rectangle of that window gets these numbers, row by row
abbrev pub placed_on : List Window → ℕ → Rectangle → List ℕ → List Window
placed_on desk wid r numbers = changed_window desk wid (placed_window r numbers)

-- the numbers in the rectangle of that window, row by row; none where there is no such window
abbrev pub cropped_from : List Window → ℕ → Rectangle → Option (List ℕ)
cropped_from desk wid r = option_map (λ window. cropped window.w r window.pixels) (find_window desk wid)

-- the desktop without the window of this number
abbrev pub without_window : List Window → ℕ → List Window
without_window desk wid = keyed_remove (λ window. window.wid) desk wid

-- the window of this number goes on top
abbrev pub raised : List Window → ℕ → List Window
raised desk wid = keyed_last (λ window. window.wid) desk wid

-- the window at another place
abbrev pub moved_window : ℤ → ℤ → Window → Window
moved_window x y window = record window { x = x; y = y }

abbrev pub moved_on : List Window → ℕ → ℤ → ℤ → List Window
moved_on desk wid x y = changed_window desk wid (moved_window x y)

-- the window with another size: the points that it had keep their numbers, and the new ones are 0
abbrev pub resized_window : ℕ → ℕ → Window → Window
resized_window w h window = record window { w = w; h = h; pixels = resized window.w window.h w h window.pixels }

abbrev pub resized_on : List Window → ℕ → ℕ → ℕ → List Window
resized_on desk wid w h = changed_window desk wid (resized_window w h)

-- the window with the pixels of its rectangle, as they were, at this place as well
abbrev pub copied_window : Rectangle → ℕ → ℕ → Window → Window
copied_window r x y window = record window { pixels = copied window.w r x y window.pixels }

abbrev pub copied_on : List Window → ℕ → Rectangle → ℕ → ℕ → List Window
copied_on desk wid r x y = changed_window desk wid (copied_window r x y)

-- the rectangle of that window gets the generator's pixels from this state on, row by row
abbrev pub noised_on : List Window → ℕ → Rectangle → ℕ → List Window
noised_on desk wid r seed = placed_on desk wid r (noise seed (area r))
