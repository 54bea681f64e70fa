use Rattle.std.proofs.Common.{take}
use Rattle.rect_regions.specs.PointSets.{has}
use Rattle.rect_regions.specs.Bands.{Each}
use Rattle.rect_regions.specs.Sweeping.{Covers}
use Rattle.rect_regions.proofs.band_covers.covers_all.Given as goal

abbrev pub invariant-loop-i : goal.invariant-loop-i
invariant-loop-i l = Each (Covers (has l.rects)) (take l.i l.others)
