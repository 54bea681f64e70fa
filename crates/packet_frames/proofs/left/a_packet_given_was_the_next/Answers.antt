use Rattle.packet_frames.proofs.Follows.{given_next}
use Rattle.packet_frames.proofs.left.a_packet_given_was_the_next.Goals as goal

pub returns : goal.returns
returns c = given_next
