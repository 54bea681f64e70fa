use Rattle.packet_frames.proofs.Texts.{packets_of_bytes}
use Rattle.packet_frames.proofs.laws.packets_are_of_bytes.Goals as goal

pub returns : goal.returns
returns c = packets_of_bytes
