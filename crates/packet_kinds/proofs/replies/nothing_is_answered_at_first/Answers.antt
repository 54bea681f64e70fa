use Rattle.packet_kinds.proofs.Replying.{no_replies}
use Rattle.packet_kinds.proofs.replies.nothing_is_answered_at_first.Goals as goal

pub returns : goal.returns
returns c = no_replies
