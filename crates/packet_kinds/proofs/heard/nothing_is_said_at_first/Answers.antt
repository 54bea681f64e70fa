use Rattle.packet_kinds.proofs.Talks.{first_talk}
use Rattle.packet_kinds.proofs.heard.nothing_is_said_at_first.Goals as goal

pub returns : goal.returns
returns c = first_talk
