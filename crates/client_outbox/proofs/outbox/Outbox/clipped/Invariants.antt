use Rattle.std.proofs.Common.{take}
use Rattle.client_outbox.specs.Reliefs.{ClippedTo, EachBecomes, reliefs_of}
use Rattle.client_outbox.proofs.outbox.Outbox.clipped.Given as goal

abbrev pub invariant-loop-i : goal.invariant-loop-i
invariant-loop-i g l = EachBecomes (ClippedTo g.R.Points.has l.w l.h) (reliefs_of l.wid (take l.i l.self-inside.packets.items)) l.reliefs.items
