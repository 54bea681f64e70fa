-- What paint lines do to the desktop. This project's own.
use Rattle.std.specs.Prelude.{ℕ, List, [], ◌∷◌, take}
use Rattle.xp_base.specs.Points.{Rectangle}
use Rattle.window_model.specs.Desktop.{Window, opened, filled_on}
use Rattle.first_script.specs.declared.paint.Paint.{Paint}
use Rattle.first_script.specs.declared.paint.Paint.TheVariants.{Open, Fill}

-- a rectangle by its numbers
abbrev pub rectangle : ℕ → ℕ → ℕ → ℕ → Rectangle
rectangle x y w h = record { x = x; y = y; w = w; h = h }

-- the effect of one line
abbrev pub painted : List Window → Paint → List Window
painted desk (Open wid x y w h) = opened desk wid x y w h
painted desk (Fill wid x y w h c) = filled_on desk wid (rectangle x y w h) c

-- the effect of lines, one after the other
abbrev pub painted_by : List Window → List Paint → List Window
painted_by desk [] = desk
painted_by desk (line ∷ lines) = painted_by (painted desk line) lines

-- the desktop after the first so many lines
unfoldable pub desk_at : List Paint → ℕ → List Window
desk_at lines count = painted_by [] (take count lines)

-- the desktop after all lines
unfoldable pub last_desk : List Paint → List Window
last_desk lines = painted_by [] lines
