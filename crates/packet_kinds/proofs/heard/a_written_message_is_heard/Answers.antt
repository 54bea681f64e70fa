use Rattle.packet_kinds.proofs.Talks.{message_is_heard, part_is_unheard}
use Rattle.packet_kinds.proofs.heard.a_written_message_is_heard.Goals as goal

pub returns-clause-whole : goal.returns-clause-whole
returns-clause-whole c = message_is_heard

pub returns-clause-part : goal.returns-clause-part
returns-clause-part c = part_is_unheard
