use Rattle.packet_kinds.proofs.Replying.{replies_are, packets_are_answered, packets_stop}
use Rattle.std.proofs.Common.{refl}
use Rattle.packet_frames.specs.Stream.{packets_of}
use Rattle.packet_kinds.proofs.replies.replies_go_packet_by_packet.Goals as goal

pub returns : goal.returns
returns c = record {
  whole = λ limit bytes. replies_are limit bytes (packets_of limit bytes) refl;
  more = packets_are_answered;
  stop = packets_stop;
}
