-- What paint lines do to the desktop. This project's own.
use Rattle.std.specs.Prelude.{ℕ, List, [], ◌∷◌, take}
use Rattle.xp_base.specs.Points.{Rectangle}
use Rattle.window_model.specs.Desktop.{Window, opened, filled_on, copied_on, noised_on, resized_on, moved_on, raised, without_window}
use Rattle.script_lines.specs.declared.paint.Paint.{Paint}
use Rattle.script_lines.specs.declared.paint.Paint.TheVariants.{Open, Close, Fill, Copy, Noise, Resize, Move, Raise}

-- a rectangle by its numbers
abbrev pub rectangle : ℕ → ℕ → ℕ → ℕ → Rectangle
rectangle x y w h = record { x = x; y = y; w = w; h = h }

-- the effect of one line
abbrev pub painted : List Window → Paint → List Window
painted desk (Open wid x y w h) = opened desk wid x y w h
painted desk (Close wid) = without_window desk wid
painted desk (Fill wid x y w h c) = filled_on desk wid (rectangle x y w h) c
painted desk (Copy wid x y w h tx ty) = copied_on desk wid (rectangle x y w h) tx ty
painted desk (Noise wid x y w h seed) = noised_on desk wid (rectangle x y w h) seed
painted desk (Resize wid w h) = resized_on desk wid w h
painted desk (Move wid x y) = moved_on desk wid x y
painted desk (Raise wid) = raised desk wid

-- the effect of lines, one after the other
abbrev pub painted_by : List Window → List Paint → List Window
painted_by desk [] = desk
painted_by desk (line ∷ lines) = painted_by (painted desk line) lines

-- the desktop after the first so many lines
unfoldable pub desk_at : List Paint → ℕ → List Window
desk_at lines count = painted_by [] (take count lines)

-- the desktop after all lines
unfoldable pub last_desk : List Paint → List Window
last_desk lines = painted_by [] lines
