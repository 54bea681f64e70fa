use Rattle.std.proofs.Common.{◌≡◌, take}
use Rattle.rect_regions.specs.PointSets.{has, count_of}
use Rattle.rect_regions.proofs.band_sums.count_points.Given as goal

abbrev pub invariant-loop-i : goal.invariant-loop-i
invariant-loop-i l = l.count ≡ count_of (has (take l.i l.rects))
