use Rattle.packet_kinds.proofs.Following.{message_follows}
use Rattle.packet_kinds.proofs.laws.a_message_follows.Goals as goal

pub returns : goal.returns
returns c = message_follows
