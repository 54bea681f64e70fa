use Rattle.std.proofs.Common.{◌≡◌, take}
use Rattle.std.specs.Prelude.{min}
use Rattle.paint_script.specs.Faults.{pixels_of}
use Rattle.paint_script.proofs.faults.pixels_of.Given as goal

abbrev pub invariant-loop-o : goal.invariant-loop-o
invariant-loop-o l = l.pixels ≡ min (pixels_of (take l.o-index l.windows)) 4194305
