use Rattle.std.proofs.Common.{◌≡◌, ◌-◌, ◌+◌, ◌≤◌}
use Rattle.rect_regions.specs.PointSets.{has}
use Rattle.rect_regions.proofs.Coverings.{CoversTo}
use Rattle.rect_regions.proofs.band_covers.covers.Given as goal

abbrev pub invariant-loop-y : goal.invariant-loop-y
invariant-loop-y l = record {
  same : l.r ≡ l.fn.r;
  from : l.r.y ≤ l.y;
  rows : CoversTo (has l.rects) l.r l.y;
}

abbrev pub decreases-loop-y : goal.decreases-loop-y
decreases-loop-y l = l.r.y + l.r.h - l.y
