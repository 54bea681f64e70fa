use Rattle.rect_regions.proofs.BitSteps.{marks_below}
use Rattle.rect_regions.proofs.Boundings.{BoundsSoFar}
use Rattle.rect_regions.proofs.bit_region.BitRegionPoints.bounds.Given as goal

abbrev pub invariant-loop-k : goal.invariant-loop-k
invariant-loop-k l = BoundsSoFar (marks_below l.fn.self l.k) l.bounds
