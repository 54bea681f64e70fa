-- What a paint line is to every client. This project's own.
use Rattle.std.specs.Prelude.{ℕ, ℤ, ◌≡◌, IsSomeAnd, List}
use Rattle.window_model.specs.Desktop.{Window, find_window}
use Rattle.window_model.specs.Geometry.{Geometry}
use Rattle.script_lines.specs.declared.paint.Paint.{Paint}
use Rattle.script_lines.specs.declared.paint.Paint.TheVariants.{Open, Close, Fill, Copy, Noise, Resize, Move, Raise}
use Rattle.paint_script.specs.Painting.{rectangle}
use Rattle.attached_client.specs.declared.change.Change.{Change}
use Rattle.attached_client.specs.declared.change.Change.TheVariants as C

-- a window's number, the place of its top left corner, and its size
abbrev pub geometry : ℕ → ℤ → ℤ → ℕ → ℕ → Geometry
geometry wid x y w h = record { wid = wid; x = x; y = y; w = w; h = h }

-- a window of the desktop has another place, and its size as it is
abbrev pub IsMoveOf : List Window → ℕ → ℤ → ℤ → Change → Type 0
IsMoveOf desk wid x y change = IsSomeAnd (find_window desk wid) (λ window. change ≡ C.Moved (geometry wid x y window.w window.h))

-- it has another size, and its place as it is
abbrev pub IsResizeOf : List Window → ℕ → ℕ → ℕ → Change → Type 0
IsResizeOf desk wid w h change = IsSomeAnd (find_window desk wid) (λ window. change ≡ C.Resized (geometry wid window.x window.y w h))

-- By the line, on the desktop that it meets. What a copy changes is its target.
abbrev pub IsChangeOf : List Window → Paint → Change → Type 0
IsChangeOf desk (Open wid x y w h) change = change ≡ C.Opened (geometry wid x y w h)
IsChangeOf desk (Close wid) change = change ≡ C.Closed wid
IsChangeOf desk (Fill wid x y w h c) change = change ≡ C.Damaged wid (rectangle x y w h)
IsChangeOf desk (Copy wid x y w h tx ty) change = change ≡ C.Damaged wid (rectangle tx ty w h)
IsChangeOf desk (Noise wid x y w h seed) change = change ≡ C.Damaged wid (rectangle x y w h)
IsChangeOf desk (Resize wid w h) change = IsResizeOf desk wid w h change
IsChangeOf desk (Move wid x y) change = IsMoveOf desk wid x y change
IsChangeOf desk (Raise wid) change = change ≡ C.Raised wid
