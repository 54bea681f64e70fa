use Rattle.packet_kinds.proofs.Replying.{effect_is_there}
use Rattle.packet_kinds.proofs.replies.a_packet_has_an_effect_by_its_bytes.Goals as goal

pub returns : goal.returns
returns c = effect_is_there
