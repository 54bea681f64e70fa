-- What the definitions of scripts come to.
use Rattle.std.specs.Prelude.{ℕ, ℤ, ◌+◌, ◌-◌, ◌<◌, ◌≤◌, ◌≡◌, ◌⊎◌, true, false, ◌||◌, Option, Some, None, Ok, Err, List, [], length, slice_get, take}
use Rattle.window_model.specs.Desktop.{Window, IsDesktop, has_window, opened, filled_on, copied_on, noised_on, resized_on, moved_on, raised, without_window}
use Rattle.script_lines.specs.declared.paint.Paint.{Paint}
use Rattle.script_lines.specs.declared.paint.Paint.TheVariants.{Open, Close, Fill, Copy, Noise, Resize, Move, Raise}
use Rattle.script_lines.specs.declared.line.Line.{Line}
use Rattle.script_lines.specs.declared.why.Why.TheVariants as why
use Rattle.script_lines.specs.Text.{lines_of}
use Rattle.paint_script.specs.declared.fault.ScriptFault.{ScriptFault}
use Rattle.paint_script.specs.Painting.{rectangle, painted, desk_at, last_desk}
use Rattle.paint_script.specs.Validity.{IsOpenOn, IsFillOn, IsCopyOn, IsNoiseOn, IsResizeOn, IsMoveOn, IsPaintOn, ArePaints, opens, has_opened, pixel_count, paint_lines}
use Rattle.paint_script.specs.Faults.{IsScript}
use Rattle.paint_script.specs.Text.{script_of, fault_at, made_of}

abbrev pub DeskAtStart : Type 0
DeskAtStart = (lines : List Paint) → desk_at lines 0 ≡ []

abbrev pub DeskAtNext : Type 0
DeskAtNext = (lines : List Paint) (place : ℕ) (line : Paint) → slice_get lines place ≡ Some line
    → desk_at lines (place + 1) ≡ painted (desk_at lines place) line

abbrev pub DeskAtEnd : Type 0
DeskAtEnd = (lines : List Paint) (place : ℕ) → length lines ≤ place → desk_at lines place ≡ last_desk lines

-- what each kind of line paints
pub record PaintedLines : Type 0 where
  pub opening : (desk : List Window) (wid : ℕ) (x y : ℤ) (w h : ℕ) → painted desk (Open wid x y w h) ≡ opened desk wid x y w h
  pub closing : (desk : List Window) (wid : ℕ) → painted desk (Close wid) ≡ without_window desk wid
  pub filling : (desk : List Window) (wid x y w h c : ℕ) → painted desk (Fill wid x y w h c) ≡ filled_on desk wid (rectangle x y w h) c
  pub copying : (desk : List Window) (wid x y w h tx ty : ℕ) → painted desk (Copy wid x y w h tx ty) ≡ copied_on desk wid (rectangle x y w h) tx ty
  pub noising : (desk : List Window) (wid x y w h seed : ℕ) → painted desk (Noise wid x y w h seed) ≡ noised_on desk wid (rectangle x y w h) seed
  pub resizing : (desk : List Window) (wid w h : ℕ) → painted desk (Resize wid w h) ≡ resized_on desk wid w h
  pub moving : (desk : List Window) (wid : ℕ) (x y : ℤ) → painted desk (Move wid x y) ≡ moved_on desk wid x y
  pub raising : (desk : List Window) (wid : ℕ) → painted desk (Raise wid) ≡ raised desk wid

-- after any number of valid lines
pub record ValidDesks : Type 0 where
  pub desktop : (lines : List Paint) (place : ℕ) → ArePaints lines → IsDesktop (desk_at lines place)
  pub windows : (lines : List Paint) (place : ℕ) → ArePaints lines → length (desk_at lines place) ≤ 32
  pub pixels : (lines : List Paint) (place : ℕ) → ArePaints lines → pixel_count (desk_at lines place) ≤ 4194304

-- the window that a line other than `open` names
abbrev pub named_window : Paint → Option ℕ
named_window (Open wid x y w h) = None
named_window (Close wid) = Some wid
named_window (Fill wid x y w h c) = Some wid
named_window (Copy wid x y w h tx ty) = Some wid
named_window (Noise wid x y w h seed) = Some wid
named_window (Resize wid w h) = Some wid
named_window (Move wid x y) = Some wid
named_window (Raise wid) = Some wid

-- what each kind of line needs on the desktop that it meets
pub record PaintNeeds : Type 0 where
  pub opening : (desk : List Window) (wid : ℕ) (x y : ℤ) (w h : ℕ) → IsPaintOn desk (Open wid x y w h) → IsOpenOn desk wid x y w h
  pub closing : (desk : List Window) (wid : ℕ) → IsPaintOn desk (Close wid) → has_window desk wid ≡ true
  pub filling : (desk : List Window) (wid x y w h c : ℕ) → IsPaintOn desk (Fill wid x y w h c) → IsFillOn desk wid (rectangle x y w h) c
  pub copying : (desk : List Window) (wid x y w h tx ty : ℕ) → IsPaintOn desk (Copy wid x y w h tx ty) → IsCopyOn desk wid (rectangle x y w h) tx ty
  pub noising : (desk : List Window) (wid x y w h seed : ℕ) → IsPaintOn desk (Noise wid x y w h seed) → IsNoiseOn desk wid (rectangle x y w h) seed
  pub resizing : (desk : List Window) (wid w h : ℕ) → IsPaintOn desk (Resize wid w h) → IsResizeOn desk wid w h
  pub moving : (desk : List Window) (wid : ℕ) (x y : ℤ) → IsPaintOn desk (Move wid x y) → IsMoveOn desk wid x y
  pub raising : (desk : List Window) (wid : ℕ) → IsPaintOn desk (Raise wid) → has_window desk wid ≡ true
  pub there : (desk : List Window) (line : Paint) (wid : ℕ) → IsPaintOn desk line → named_window line ≡ Some wid → has_window desk wid ≡ true

-- one of the first so many lines opens the window with this number
pub record IsOpenedBefore (lines : List Paint) (count k : ℕ) : Type 0 where
  pub place : ℕ
  pub line : Paint
  pub before : place < count
  pub there : slice_get lines place ≡ Some line
  pub opening : opens k line ≡ true

-- which numbers lines have opened: those of the `open` lines among them; of valid lines, no later one opens such a number,
-- and each window that stands has one
pub record OpenedNumbers : Type 0 where
  pub start : (lines : List Paint) (k : ℕ) → has_opened (take 0 lines) k ≡ false
  pub next : (lines : List Paint) (place : ℕ) (line : Paint) (k : ℕ) → slice_get lines place ≡ Some line
      → has_opened (take (place + 1) lines) k ≡ (has_opened (take place lines) k || opens k line)
  pub whole : (lines : List Paint) (count k : ℕ) → length lines ≤ count → has_opened (take count lines) k ≡ has_opened lines k
  pub has_line : (lines : List Paint) (count k : ℕ) → has_opened (take count lines) k ≡ true → IsOpenedBefore lines count k
  pub has_number : (lines : List Paint) (count k : ℕ) → IsOpenedBefore lines count k → has_opened (take count lines) k ≡ true
  pub kept : (lines : List Paint) (count more k : ℕ) → count ≤ more → has_opened (take count lines) k ≡ true → has_opened (take more lines) k ≡ true
  pub once : (lines : List Paint) (place : ℕ) (line : Paint) (k : ℕ) → ArePaints lines → slice_get lines place ≡ Some line → opens k line ≡ true
      → has_opened (take place lines) k ≡ false
  pub later : (lines : List Paint) (count place : ℕ) (line : Paint) (k : ℕ) → ArePaints lines → has_opened (take count lines) k ≡ true → count ≤ place
      → slice_get lines place ≡ Some line → opens k line ≡ false
  pub windows : (lines : List Paint) (count k : ℕ) → has_window (desk_at lines count) k ≡ true → has_opened (take count lines) k ≡ true

-- the paint lines of a script are valid
abbrev pub ScriptPaints : Type 0
ScriptPaints = (lines : List Line) → IsScript lines → ArePaints (paint_lines lines)

-- a text is these lines: it is short, no line of it has a fault, and they are what its lines are
pub record IsScriptOf (text : List ℕ) (lines : List Line) : Type 0 where
  pub short : length text ≤ 33554432
  pub faultless : (place : ℕ) → place < length (lines_of text) → fault_at (lines_of text) place ≡ None
  pub made : lines ≡ made_of (lines_of text)

-- a text has this fault at the line with this number, and none before it
pub record IsFaultOf (text : List ℕ) (place : ℕ) (fault : ScriptFault) : Type 0 where
  pub short : length text ≤ 33554432
  pub there : place < length (lines_of text)
  pub number : fault.line ≡ place + 1
  pub is : fault_at (lines_of text) place ≡ Some fault.why
  pub first : (before : ℕ) → before < place → fault_at (lines_of text) before ≡ None

-- a text is too long, and has that fault at line 0, whatever its lines are
pub record IsTooLong (text : List ℕ) (fault : ScriptFault) : Type 0 where
  pub long : 33554432 < length text
  pub is : fault ≡ record { line = 0; why = why.Bytes }

-- which lines a text is, and which fault it has
pub record ScriptsOfTexts : Type 0 where
  pub read : (text : List ℕ) (lines : List Line) → script_of text ≡ Ok lines → IsScriptOf text lines
  pub only : (text : List ℕ) (lines : List Line) → IsScriptOf text lines → script_of text ≡ Ok lines
  pub fault : (text : List ℕ) (place : ℕ) (fault : ScriptFault) → IsFaultOf text place fault → script_of text ≡ Err fault
  pub long : (text : List ℕ) (fault : ScriptFault) → IsTooLong text fault → script_of text ≡ Err fault
  pub refused : (text : List ℕ) (fault : ScriptFault) → script_of text ≡ Err fault → IsTooLong text fault ⊎ IsFaultOf text (fault.line - 1) fault
