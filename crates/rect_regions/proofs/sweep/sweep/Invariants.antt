use Rattle.std.proofs.Common.{◌-◌, ◌≤◌}
use Rattle.rect_regions.specs.PointSets.{has}
use Rattle.rect_regions.specs.Combinations.{combined}
use Rattle.rect_regions.specs.Making.{IsMade}
use Rattle.rect_regions.specs.Sweeping.{IsBelow}
use Rattle.rect_regions.proofs.Sweeps.{SweptTo}
use Rattle.rect_regions.proofs.sweep.sweep.Given as goal

abbrev pub invariant-loop-y : goal.invariant-loop-y
invariant-loop-y l = record {
  made : IsMade l.rects.items l.last l.y;
  points : SweptTo (combined l.combination (has l.one) (has l.other)) l.fn.rects.items l.rects.items l.from l.y;
  one : IsBelow l.y l.one l.one_left;
  other : IsBelow l.y l.other l.other_left;
  order : l.from ≤ l.y;
  limit : l.limit ≤ 4096;
  across : l.y ≤ 4096;
}

abbrev pub decreases-loop-y : goal.decreases-loop-y
decreases-loop-y l = l.limit - l.y
