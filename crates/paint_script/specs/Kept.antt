-- What the reader of a script keeps of the lines so far, so that each line is judged in constant time. This project's own.
use Rattle.std.specs.Prelude.{ℕ, ◌<◌, ◌≡◌, Bool, true, false, List, length, slice_set, slice_index_or}
use Rattle.xp_base.specs.Keyed.{keyed_push, keyed_remove, keyed_last}
use Rattle.script_lines.specs.declared.paint.Paint.{Paint}
use Rattle.script_lines.specs.declared.paint.Paint.TheVariants.{Open, Close, Fill, Copy, Noise, Resize, Move, Raise}
use Rattle.script_lines.specs.declared.line.Line.{Line}
use Rattle.paint_script.specs.declared.opening.Opening.{Opening}
use Rattle.paint_script.specs.Validity.{has_opened, paint_lines}
use Rattle.paint_script.specs.Faults.{with_resized, windows_after, joined, IsScript}

abbrev pub without : List Opening → ℕ → List Opening
without windows wid = keyed_remove (λ o. o.wid) windows wid

abbrev pub raised_last : List Opening → ℕ → List Opening
raised_last windows wid = keyed_last (λ o. o.wid) windows wid

-- the windows after a line
abbrev pub windows_with : List Opening → Paint → List Opening
windows_with windows (Open wid x y w h) = keyed_push windows (record { wid = wid; w = w; h = h })
windows_with windows (Close wid) = without windows wid
windows_with windows (Fill wid x y w h c) = windows
windows_with windows (Copy wid x y w h tx ty) = windows
windows_with windows (Noise wid x y w h seed) = windows
windows_with windows (Resize wid w h) = with_resized windows wid w h
windows_with windows (Move wid x y) = windows
windows_with windows (Raise wid) = raised_last windows wid

-- the line opens a number that is marked
abbrev pub is_marked : List Bool → Paint → Bool
is_marked marks (Open wid x y w h) = slice_index_or marks wid false
is_marked marks (Close wid) = false
is_marked marks (Fill wid x y w h c) = false
is_marked marks (Copy wid x y w h tx ty) = false
is_marked marks (Noise wid x y w h seed) = false
is_marked marks (Resize wid w h) = false
is_marked marks (Move wid x y) = false
is_marked marks (Raise wid) = false

-- the number that a line opens is marked
abbrev pub marked : List Bool → Paint → List Bool
marked marks (Open wid x y w h) = slice_set marks wid true
marked marks (Close wid) = marks
marked marks (Fill wid x y w h c) = marks
marked marks (Copy wid x y w h tx ty) = marks
marked marks (Noise wid x y w h seed) = marks
marked marks (Resize wid w h) = marks
marked marks (Move wid x y) = marks
marked marks (Raise wid) = marks

-- each number of a window is marked exactly where a line opened it
pub record AreMarks (marks : List Bool) (lines : List Line) : Type 0 where
  pub sized : length marks ≡ 65536
  pub exact : (k : ℕ) → k < 65536 → slice_index_or marks k false ≡ has_opened (paint_lines lines) k

-- the lines are a script, and these are its windows, its marks and its number of peers
pub record IsKept (lines : List Line) (windows : List Opening) (marks : List Bool) (peers : ℕ) : Type 0 where
  pub script : IsScript lines
  pub windows_are : windows ≡ windows_after lines
  pub marks_are : AreMarks marks lines
  pub peers_are : peers ≡ joined lines
