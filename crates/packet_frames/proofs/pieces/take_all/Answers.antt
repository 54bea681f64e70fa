use Rattle.packet_frames.proofs.Taking.{gives_less}
use Rattle.packet_frames.proofs.pieces.take_all.Goals as goal

pub loop-place-smaller : goal.loop-place-smaller
loop-place-smaller c = gives_less c.loop-place.framer c.in-Packet.place c.in-Packet.value c.next.new.self c.in-Packet.ensures.gives
