use Rattle.std.proofs.Common.{length}
use Rattle.packet_frames.proofs.Taking.{TakesOn}
use Rattle.packet_frames.proofs.pieces.take_all.Given as goal

abbrev pub invariant-loop-place : goal.invariant-loop-place
invariant-loop-place l = TakesOn l.initial.packets.items l.packets.items l.initial.framer l.framer

abbrev pub decreases-loop-place : goal.decreases-loop-place
decreases-loop-place l = length l.framer.rest
