use Rattle.packet_kinds.proofs.Sizes.{may_be_written}
use Rattle.packet_kinds.proofs.written.a_plain_message_may_be_written.Goals as goal

pub returns : goal.returns
returns c = may_be_written
