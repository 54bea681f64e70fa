use Rattle.std.proofs.Common.{◌≡◌, drop}
use Rattle.rect_regions.specs.Making.{same_runs}
use Rattle.rect_regions.proofs.bands.same_runs.Given as goal

abbrev pub invariant-loop-i : goal.invariant-loop-i
invariant-loop-i l = same_runs l.one l.other ≡ same_runs (drop l.i l.one) (drop l.i l.other)
