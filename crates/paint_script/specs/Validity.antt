-- Which lines may stand where. This project's own.
use Rattle.std.specs.Prelude.{ℕ, ℤ, ◌+◌, ◌*◌, ◌^◌, ◌≤◌, ◌<◌, ◌≡◌, ◌==◌, Bool, true, false, Some, List, [], ◌∷◌, length, sum_by, slice_get, take}
use Rattle.std.specs.List.{list_any}
use Rattle.xp_base.specs.Points.{Rectangle, IsRectangle}
use Rattle.window_model.specs.Drawing.{put_at}
use Rattle.window_model.specs.Desktop.{Window, IsSide, IsPlace, IsInWindow, has_window, resized_on}
use Rattle.link_bay.specs.declared.order.Order.{Order}
use Rattle.script_lines.specs.declared.paint.Paint.{Paint}
use Rattle.script_lines.specs.declared.paint.Paint.TheVariants.{Open, Close, Fill, Copy, Noise, Resize, Move, Raise}
use Rattle.script_lines.specs.declared.line.Line.{Line}
use Rattle.script_lines.specs.declared.line.Line.TheVariants as line
use Rattle.paint_script.specs.Painting.{rectangle, desk_at}

-- how many pixels all windows have
abbrev pub pixel_count : List Window → ℕ
pixel_count desk = sum_by (λ window. window.w * window.h) desk

-- what an `open` needs on the desktop that it meets: at most 32 windows and 4,194,304 pixels stand after it
pub record IsOpenOn (desk : List Window) (wid : ℕ) (x y : ℤ) (w h : ℕ) : Type 0 where
  pub first : 1 ≤ wid
  pub last : wid < 2 ^ 16
  pub new : has_window desk wid ≡ false
  pub across : IsPlace x
  pub down : IsPlace y
  pub wide : IsSide w
  pub high : IsSide h
  pub windows : length desk < 32
  pub pixels : pixel_count desk + w * h ≤ 4194304

-- what a `fill` needs: the window is there, and the rectangle lies in it
pub record IsFillOn (desk : List Window) (wid : ℕ) (r : Rectangle) (colour : ℕ) : Type 0 where
  pub some : IsRectangle r
  pub inside : IsInWindow desk wid r
  pub coloured : colour < 2 ^ 24

-- what a `copy` needs: both rectangles lie in the window
pub record IsCopyOn (desk : List Window) (wid : ℕ) (r : Rectangle) (x y : ℕ) : Type 0 where
  pub some : IsRectangle r
  pub inside : IsInWindow desk wid r
  pub target : IsInWindow desk wid (put_at x y r)

pub record IsNoiseOn (desk : List Window) (wid : ℕ) (r : Rectangle) (seed : ℕ) : Type 0 where
  pub some : IsRectangle r
  pub inside : IsInWindow desk wid r
  pub seeded : seed < 2 ^ 32

-- what a `resize` needs: at most 4,194,304 pixels stand after it
pub record IsResizeOn (desk : List Window) (wid w h : ℕ) : Type 0 where
  pub there : has_window desk wid ≡ true
  pub wide : IsSide w
  pub high : IsSide h
  pub pixels : pixel_count (resized_on desk wid w h) ≤ 4194304

pub record IsMoveOn (desk : List Window) (wid : ℕ) (x y : ℤ) : Type 0 where
  pub there : has_window desk wid ≡ true
  pub across : IsPlace x
  pub down : IsPlace y

-- what a paint line needs on the desktop that it meets
abbrev pub IsPaintOn : List Window → Paint → Type 0
IsPaintOn desk (Open wid x y w h) = IsOpenOn desk wid x y w h
IsPaintOn desk (Close wid) = has_window desk wid ≡ true
IsPaintOn desk (Fill wid x y w h c) = IsFillOn desk wid (rectangle x y w h) c
IsPaintOn desk (Copy wid x y w h tx ty) = IsCopyOn desk wid (rectangle x y w h) tx ty
IsPaintOn desk (Noise wid x y w h seed) = IsNoiseOn desk wid (rectangle x y w h) seed
IsPaintOn desk (Resize wid w h) = IsResizeOn desk wid w h
IsPaintOn desk (Move wid x y) = IsMoveOn desk wid x y
IsPaintOn desk (Raise wid) = has_window desk wid ≡ true

-- the line opens the window with this number
abbrev pub opens : ℕ → Paint → Bool
opens k (Open wid x y w h) = wid == k
opens k (Close wid) = false
opens k (Fill wid x y w h c) = false
opens k (Copy wid x y w h tx ty) = false
opens k (Noise wid x y w h seed) = false
opens k (Resize wid w h) = false
opens k (Move wid x y) = false
opens k (Raise wid) = false

-- one of the lines opens it, whether it is closed later or not
unfoldable pub has_opened : List Paint → ℕ → Bool
has_opened lines k = list_any (opens k) lines

-- each line has what it needs, on the desktop after the lines before it, and no number is opened twice
pub record ArePaints (lines : List Paint) : Type 0 where
  pub valid : (place : ℕ) (line : Paint) → slice_get lines place ≡ Some line → IsPaintOn (desk_at lines place) line
  pub once : (place : ℕ) (line : Paint) → slice_get lines place ≡ Some line → (k : ℕ) → opens k line ≡ true → has_opened (take place lines) k ≡ false

-- the paint lines, in order
abbrev pub paint_lines : List Line → List Paint
paint_lines [] = []
paint_lines (line.Paint paint ∷ lines) = paint ∷ paint_lines lines
paint_lines (line.Peer order ∷ lines) = paint_lines lines
paint_lines (line.Plan plan ∷ lines) = paint_lines lines

-- the orders for peers, in order
abbrev pub peer_orders : List Line → List Order
peer_orders [] = []
peer_orders (line.Paint paint ∷ lines) = peer_orders lines
peer_orders (line.Peer order ∷ lines) = order ∷ peer_orders lines
peer_orders (line.Plan plan ∷ lines) = peer_orders lines
