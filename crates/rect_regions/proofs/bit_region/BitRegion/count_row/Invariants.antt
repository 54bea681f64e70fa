use Rattle.std.proofs.Common.{◌≡◌}
use Rattle.rect_regions.specs.PointSets.{count_row}
use Rattle.rect_regions.specs.BitRows.{has_mark}
use Rattle.rect_regions.proofs.bit_region.BitRegion.count_row.Given as goal

abbrev pub invariant-loop-x : goal.invariant-loop-x
invariant-loop-x l = l.count ≡ count_row l.x (has_mark l.fn.self) l.fn.y
