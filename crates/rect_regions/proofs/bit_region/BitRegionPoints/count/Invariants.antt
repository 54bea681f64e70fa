use Rattle.std.proofs.Common.{◌≡◌, ◌≤◌, ◌*◌}
use Rattle.rect_regions.specs.PointSets.{count_row, sum_below}
use Rattle.rect_regions.specs.BitRows.{has_mark}
use Rattle.rect_regions.proofs.bit_region.BitRegionPoints.count.Given as goal

abbrev pub invariant-loop-y : goal.invariant-loop-y
invariant-loop-y l = record {
  counted : l.count ≡ sum_below l.y (count_row l.fn.self.wide (has_mark l.fn.self));
  few : l.count ≤ 4096 * l.y;
}
