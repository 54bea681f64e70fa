use Rattle.std.proofs.Common.{take}
use Rattle.rect_regions.specs.PointSets.{has}
use Rattle.rect_regions.proofs.Boundings.{BoundsSoFar}
use Rattle.rect_regions.proofs.band_sums.bounds_of.Given as goal

abbrev pub invariant-loop-i : goal.invariant-loop-i
invariant-loop-i l = BoundsSoFar (has (take l.i l.rects)) l.bounds
