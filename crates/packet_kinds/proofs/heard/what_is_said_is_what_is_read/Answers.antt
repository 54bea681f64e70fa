use Rattle.packet_kinds.proofs.Given.{packets_are_said}
use Rattle.packet_kinds.proofs.heard.what_is_said_is_what_is_read.Goals as goal

pub returns : goal.returns
returns c = packets_are_said
