use Rattle.rect_regions.specs.BitRows.{has_mark}
use Rattle.rect_regions.specs.Making.{IsMade}
use Rattle.rect_regions.proofs.RowSteps.{HasRowsOf}
use Rattle.rect_regions.proofs.bit_region.BitRegionPoints.rects.Given as goal

abbrev pub invariant-loop-y : goal.invariant-loop-y
invariant-loop-y l = record {
  made : IsMade l.rects.items l.last l.y;
  points : HasRowsOf (has_mark l.fn.self) l.rects.items l.y;
}
