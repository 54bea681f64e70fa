use Rattle.std.proofs.Common.{take}
use Rattle.std.specs.List.{concat}
use Rattle.packet_frames.specs.Pieces.{TakesAll}
use Rattle.packet_frames.proofs.pieces.read_pieces.Given as goal

abbrev pub invariant-loop-piece : goal.invariant-loop-piece
invariant-loop-piece l = TakesAll (concat (take l.piece-index l.pieces)) l.packets.items l.limit l.framer l.fault
