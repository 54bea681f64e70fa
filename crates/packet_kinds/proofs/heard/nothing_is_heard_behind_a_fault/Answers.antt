use Rattle.packet_kinds.proofs.Talks.{nothing_more}
use Rattle.packet_kinds.proofs.heard.nothing_is_heard_behind_a_fault.Goals as goal

pub returns : goal.returns
returns c = nothing_more
