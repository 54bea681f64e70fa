-- The least rectangle that holds others.
use Rattle.std.specs.Prelude.{ℕ, ◌+◌, ◌-◌, min, max, Option, Some, None}
use Rattle.xp_base.specs.Points.{Rectangle}

abbrev pub bounding : Rectangle → Rectangle → Rectangle
bounding r s = record {
  x = min r.x s.x;
  y = min r.y s.y;
  w = max (r.x + r.w) (s.x + s.w) - min r.x s.x;
  h = max (r.y + r.h) (s.y + s.h) - min r.y s.y;
}

abbrev pub with_rect : Option Rectangle → Rectangle → Rectangle
with_rect None s = s
with_rect (Some r) s = bounding r s

abbrev pub with_point : Option Rectangle → ℕ → ℕ → Rectangle
with_point bounds x y = with_rect bounds (record { x = x; y = y; w = 1; h = 1 })
