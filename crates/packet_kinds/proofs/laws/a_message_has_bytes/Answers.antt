use Rattle.packet_kinds.proofs.Following.{message_has_bytes}
use Rattle.packet_kinds.proofs.laws.a_message_has_bytes.Goals as goal

pub returns : goal.returns
returns c = message_has_bytes
