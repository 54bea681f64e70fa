-- Which lines may stand where. This project's own.
use Rattle.std.specs.Prelude.{ℕ, ℤ, ◌+◌, ◌*◌, ◌^◌, ◌≤◌, ◌<◌, ◌≡◌, Bool, true, false, Some, List, [], ◌∷◌, length, sum_by, count_by, slice_get, All}
use Rattle.xp_base.specs.Points.{Rectangle, IsRectangle}
use Rattle.window_model.specs.Desktop.{Window, IsSide, IsPlace, IsInWindow, has_window}
use Rattle.link_bay.specs.declared.order.Order.{Order}
use Rattle.link_bay.specs.declared.order.Order.TheVariants.{Join}
use Rattle.link_bay.specs.declared.order.Kind.TheVariants.{Exact}
use Rattle.first_script.specs.declared.paint.Paint.{Paint}
use Rattle.first_script.specs.declared.paint.Paint.TheVariants.{Open, Fill}
use Rattle.first_script.specs.declared.line.Line.{Line}
use Rattle.first_script.specs.declared.line.Line.TheVariants as line
use Rattle.first_script.specs.Painting.{rectangle, desk_at}

-- how many pixels all windows have
abbrev pub pixel_count : List Window → ℕ
pixel_count desk = sum_by (λ window. window.w * window.h) desk

-- what an `open` needs on the desktop that it meets: at most 32 windows and 4,194,304 pixels stand after it
pub record IsOpenOn (desk : List Window) (wid : ℕ) (x y : ℤ) (w h : ℕ) : Type 0 where
  pub first : 1 ≤ wid
  pub last : wid < 2 ^ 16
  pub new : has_window desk wid ≡ false
  pub across : IsPlace x
  pub down : IsPlace y
  pub wide : IsSide w
  pub high : IsSide h
  pub windows : length desk < 32
  pub pixels : pixel_count desk + w * h ≤ 4194304

-- what a `fill` needs: the window is there, and the rectangle lies in it
pub record IsFillOn (desk : List Window) (wid : ℕ) (r : Rectangle) (colour : ℕ) : Type 0 where
  pub some : IsRectangle r
  pub inside : IsInWindow desk wid r
  pub coloured : colour < 2 ^ 24

-- what a paint line needs on the desktop that it meets
abbrev pub IsPaintOn : List Window → Paint → Type 0
IsPaintOn desk (Open wid x y w h) = IsOpenOn desk wid x y w h
IsPaintOn desk (Fill wid x y w h c) = IsFillOn desk wid (rectangle x y w h) c

-- each line has what it needs, on the desktop after the lines before it
abbrev pub ArePaints : List Paint → Type 0
ArePaints lines = (place : ℕ) (line : Paint) → slice_get lines place ≡ Some line → IsPaintOn (desk_at lines place) line

-- the paint lines, in order
abbrev pub paint_lines : List Line → List Paint
paint_lines [] = []
paint_lines (line.Paint paint ∷ lines) = paint ∷ paint_lines lines
paint_lines (line.Peer order ∷ lines) = paint_lines lines

-- the orders for peers, in order
abbrev pub peer_orders : List Line → List Order
peer_orders [] = []
peer_orders (line.Paint paint ∷ lines) = peer_orders lines
peer_orders (line.Peer order ∷ lines) = order ∷ peer_orders lines

abbrev pub is_open : Paint → Bool
is_open (Open wid x y w h) = true
is_open (Fill wid x y w h c) = false

-- a script as it is read so far: valid paint lines, at most one of them an `open`, and at most one peer, an exact one
pub record IsScript (lines : List Line) : Type 0 where
  pub paints : ArePaints (paint_lines lines)
  pub one_open : count_by is_open (paint_lines lines) ≤ 1
  pub one_peer : length (peer_orders lines) ≤ 1
  pub exact : All (λ order. order ≡ Join Exact []) (peer_orders lines)
