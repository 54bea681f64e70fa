-- Where a window stands, and its size.
use Rattle.std.specs.Prelude.{ℕ, ◌^◌, ◌≤◌, ◌<◌, ℤ}
use Rattle.window_model.specs.Desktop.{Window, IsSide, IsPlace}

-- a window's number, the place of its top left corner on the desktop, and its size in pixels
pub record Geometry : Type 0 where
  pub wid : ℕ
  pub x : ℤ
  pub y : ℤ
  pub w : ℕ
  pub h : ℕ

-- as the desktop has them
pub record IsGeometry (g : Geometry) : Type 0 where
  pub first : 1 ≤ g.wid
  pub last : g.wid < 2 ^ 16
  pub across : IsPlace g.x
  pub down : IsPlace g.y
  pub wide : IsSide g.w
  pub high : IsSide g.h

-- that of a window
abbrev pub geometry_of : Window → Geometry
geometry_of window = record { wid = window.wid; x = window.x; y = window.y; w = window.w; h = window.h }
