use Rattle.packet_frames.proofs.Writing.{written_follows}
use Rattle.packet_frames.proofs.laws.a_written_packet_follows.Goals as goal

pub returns : goal.returns
returns c = written_follows
