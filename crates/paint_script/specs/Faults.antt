-- What may be wrong with a line that is well formed, after the lines before it; and what a script is. This project's own.
use Rattle.std.specs.Prelude.{ℕ, ◌+◌, ◌*◌, ◌≡◌, Bool, true, false, ◌&&◌, not, nat_le, nat_lt, if◌then◌else◌, Option, Some, None, List, length, map, sum_by, count_by, slice_get, take}
use Rattle.xp_base.specs.Keyed.{keyed_find, has_key, keyed_change}
use Rattle.window_model.specs.Desktop.{Window}
use Rattle.link_bay.specs.declared.order.Order.{Order}
use Rattle.link_bay.specs.declared.order.Order.TheVariants.{Join, Map, Unmap, Refresh, Leave, Say}
use Rattle.script_lines.specs.declared.why.Why.{Why}
use Rattle.script_lines.specs.declared.why.Why.TheVariants as why
use Rattle.script_lines.specs.declared.paint.Paint.{Paint}
use Rattle.script_lines.specs.declared.paint.Paint.TheVariants.{Open, Close, Fill, Copy, Noise, Resize, Move, Raise}
use Rattle.script_lines.specs.declared.line.Line.{Line}
use Rattle.script_lines.specs.declared.line.Line.TheVariants as line
use Rattle.script_lines.specs.Ranges.{IsLine}
use Rattle.paint_script.specs.declared.opening.Opening.{Opening}
use Rattle.paint_script.specs.Painting.{last_desk}
use Rattle.paint_script.specs.Validity.{has_opened, paint_lines, peer_orders}

-- ---- paint lines, among the windows that stand before them

abbrev pub opening_of : Window → Opening
opening_of window = record { wid = window.wid; w = window.w; h = window.h }

-- the windows of a desktop by their numbers and sizes
unfoldable pub open_windows : List Window → List Opening
open_windows desk = map opening_of desk

abbrev pub find_open : List Opening → ℕ → Option Opening
find_open windows wid = keyed_find (λ o. o.wid) windows wid

abbrev pub is_open : List Opening → ℕ → Bool
is_open windows wid = has_key (λ o. o.wid) windows wid

-- a line other than `open` names no open window
abbrev pub lacks_window : List Opening → Paint → Bool
lacks_window windows (Open wid x y w h) = false
lacks_window windows (Close wid) = not (is_open windows wid)
lacks_window windows (Fill wid x y w h c) = not (is_open windows wid)
lacks_window windows (Copy wid x y w h tx ty) = not (is_open windows wid)
lacks_window windows (Noise wid x y w h seed) = not (is_open windows wid)
lacks_window windows (Resize wid w h) = not (is_open windows wid)
lacks_window windows (Move wid x y) = not (is_open windows wid)
lacks_window windows (Raise wid) = not (is_open windows wid)

-- `open` names a number that an earlier `open` had
abbrev pub reopens : List Paint → Paint → Bool
reopens before (Open wid x y w h) = has_opened before wid
reopens before (Close wid) = false
reopens before (Fill wid x y w h c) = false
reopens before (Copy wid x y w h tx ty) = false
reopens before (Noise wid x y w h seed) = false
reopens before (Resize wid w h) = false
reopens before (Move wid x y) = false
reopens before (Raise wid) = false

-- the rectangle lies in the window
abbrev pub holds : Option Opening → ℕ → ℕ → ℕ → ℕ → Bool
holds None x y w h = false
holds (Some o) x y w h = nat_le (x + w) o.w && nat_le (y + h) o.h

-- a rectangle of `fill`, `copy` or `noise`, or the target of `copy`, is not within the window
abbrev pub leaves_window : List Opening → Paint → Bool
leaves_window windows (Open wid x y w h) = false
leaves_window windows (Close wid) = false
leaves_window windows (Fill wid x y w h c) = not (holds (find_open windows wid) x y w h)
leaves_window windows (Copy wid x y w h tx ty) = not (holds (find_open windows wid) x y w h && holds (find_open windows wid) tx ty w h)
leaves_window windows (Noise wid x y w h seed) = not (holds (find_open windows wid) x y w h)
leaves_window windows (Resize wid w h) = false
leaves_window windows (Move wid x y) = false
leaves_window windows (Raise wid) = false

-- `open` would make 33 windows
abbrev pub is_one_too_many : List Opening → Paint → Bool
is_one_too_many windows (Open wid x y w h) = nat_lt 32 (length windows + 1)
is_one_too_many windows (Close wid) = false
is_one_too_many windows (Fill wid x y w h c) = false
is_one_too_many windows (Copy wid x y w h tx ty) = false
is_one_too_many windows (Noise wid x y w h seed) = false
is_one_too_many windows (Resize wid w h) = false
is_one_too_many windows (Move wid x y) = false
is_one_too_many windows (Raise wid) = false

-- how many pixels all windows have
abbrev pub pixels_of : List Opening → ℕ
pixels_of windows = sum_by (λ o. o.w * o.h) windows

abbrev pub with_size : ℕ → ℕ → Opening → Opening
with_size w h o = record o { w = w; h = h }

-- the windows where the one with this number has another size
abbrev pub with_resized : List Opening → ℕ → ℕ → ℕ → List Opening
with_resized windows wid w h = keyed_change (λ o. o.wid) windows wid (with_size w h)

-- `open` or `resize` would make more than 4,194,304 pixels over all windows
abbrev pub is_too_large : List Opening → Paint → Bool
is_too_large windows (Open wid x y w h) = nat_lt 4194304 (pixels_of windows + w * h)
is_too_large windows (Close wid) = false
is_too_large windows (Fill wid x y w h c) = false
is_too_large windows (Copy wid x y w h tx ty) = false
is_too_large windows (Noise wid x y w h seed) = false
is_too_large windows (Resize wid w h) = nat_lt 4194304 (pixels_of (with_resized windows wid w h))
is_too_large windows (Move wid x y) = false
is_too_large windows (Raise wid) = false

-- the first of these that is so; whether the line opens a number again is given
abbrev pub paint_fault : List Opening → Bool → Paint → Option Why
paint_fault windows again paint =
    if lacks_window windows paint then Some why.NoWindow
    else (if again then Some why.Reused
    else (if leaves_window windows paint then Some why.Outside
    else (if is_one_too_many windows paint then Some why.Windows
    else (if is_too_large windows paint then Some why.Pixels else None))))

-- ---- peer lines, after so many that had a peer join

abbrev pub is_join : Order → Bool
is_join (Join kind name) = true
is_join (Map k wid) = false
is_join (Unmap k wid) = false
is_join (Refresh k wid) = false
is_join (Leave k) = false
is_join (Say k bytes) = false

abbrev pub peer_named : ℕ → ℕ → Option Why
peer_named joined k = if nat_le joined k then Some why.NoPeer else None

-- a line names a peer by a number that is not below the number of peers
abbrev pub peer_fault : ℕ → Order → Option Why
peer_fault joined (Join kind name) = None
peer_fault joined (Map k wid) = peer_named joined k.0
peer_fault joined (Unmap k wid) = peer_named joined k.0
peer_fault joined (Refresh k wid) = peer_named joined k.0
peer_fault joined (Leave k) = peer_named joined k.0
peer_fault joined (Say k bytes) = peer_named joined k.0

-- how many peers the lines have join
abbrev pub joined : List Line → ℕ
joined lines = count_by is_join (peer_orders lines)

-- ---- lines

-- the windows that stand after these lines
abbrev pub windows_after : List Line → List Opening
windows_after lines = open_windows (last_desk (paint_lines lines))

-- the fault of a line after these; none where it may stand there
unfoldable pub fault_after : List Line → Line → Option Why
fault_after before (line.Paint paint) = paint_fault (windows_after before) (reopens (paint_lines before) paint) paint
fault_after before (line.Peer order) = peer_fault (joined before) order
fault_after before (line.Plan plan) = None

-- a script: each number of each line is in its range, and each line may stand after those before it
pub record IsScript (lines : List Line) : Type 0 where
  pub ranges : (place : ℕ) (line : Line) → slice_get lines place ≡ Some line → IsLine line
  pub faultless : (place : ℕ) (line : Line) → slice_get lines place ≡ Some line → fault_after (take place lines) line ≡ None
