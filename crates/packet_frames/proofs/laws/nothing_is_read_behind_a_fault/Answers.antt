use Rattle.packet_frames.proofs.Writing.{stays_at_fault}
use Rattle.packet_frames.proofs.laws.nothing_is_read_behind_a_fault.Goals as goal

pub returns : goal.returns
returns c = stays_at_fault
