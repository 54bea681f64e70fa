use Rattle.packet_frames.proofs.Writing.{part_adds_none}
use Rattle.packet_frames.proofs.laws.a_part_of_a_packet_adds_none.Goals as goal

pub returns : goal.returns
returns c = part_adds_none
