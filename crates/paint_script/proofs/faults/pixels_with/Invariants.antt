use Rattle.std.proofs.Common.{◌≡◌, take}
use Rattle.std.specs.Prelude.{min}
use Rattle.paint_script.specs.Faults.{pixels_of, with_resized}
use Rattle.paint_script.proofs.faults.pixels_with.Given as goal

abbrev pub invariant-loop-o : goal.invariant-loop-o
invariant-loop-o l = l.pixels ≡ min (pixels_of (with_resized (take l.o-index l.windows) l.wid l.w l.h)) 4194305
