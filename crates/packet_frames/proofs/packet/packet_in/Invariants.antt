use Rattle.std.proofs.Common.{◌-◌, length}
use Rattle.packet_frames.proofs.Frames.{Goes}
use Rattle.packet_frames.proofs.packet.packet_in.Given as goal

abbrev pub invariant-loop-chunks : goal.invariant-loop-chunks
invariant-loop-chunks l = Goes l.limit l.bytes l.at l.chunks.items

abbrev pub decreases-loop-chunks : goal.decreases-loop-chunks
decreases-loop-chunks l = length l.bytes - l.at
