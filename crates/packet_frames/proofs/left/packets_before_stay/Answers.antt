use Rattle.packet_frames.proofs.Streams.{read_on-behind}
use Rattle.packet_frames.proofs.left.packets_before_stay.Goals as goal

pub returns : goal.returns
returns c = read_on-behind
