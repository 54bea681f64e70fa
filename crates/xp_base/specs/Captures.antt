-- A capture: a rectangle of a window, how it is to be coded, and its pixels row by row.
use Rattle.std.specs.Prelude.{ℕ, ◌≡◌, List, length}
use Rattle.xp_base.specs.declared.coding.Coding.{Coding}
use Rattle.xp_base.specs.Points.{Rectangle, area}

pub record Captured : Type 0 where
  pub rect : Rectangle
  pub coding : Coding
  pub pixels : List ℕ

-- there is one pixel for each point of the rectangle
pub record IsCapture (c : Captured) : Type 0 where
  pub sized : length c.pixels ≡ area c.rect
