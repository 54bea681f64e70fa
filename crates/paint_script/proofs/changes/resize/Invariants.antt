use Rattle.std.proofs.Common.{◌≡◌, ◌++◌, take, drop}
use Rattle.paint_script.specs.Faults.{with_resized}
use Rattle.paint_script.proofs.changes.resize.Given as goal

abbrev pub invariant-loop-o : goal.invariant-loop-o
invariant-loop-o l = l.o-items ≡ with_resized (take l.o-index l.initial.o-items) l.wid l.w l.h ++ drop l.o-index l.initial.o-items
