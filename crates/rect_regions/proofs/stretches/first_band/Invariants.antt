use Rattle.std.proofs.Common.{◌≡◌, take}
use Rattle.rect_regions.specs.Bands.{Each}
use Rattle.rect_regions.proofs.stretches.first_band.Given as goal

abbrev pub invariant-loop-i : goal.invariant-loop-i
invariant-loop-i l = Each (λ r. r.y ≡ l.top) (take l.i l.left)
