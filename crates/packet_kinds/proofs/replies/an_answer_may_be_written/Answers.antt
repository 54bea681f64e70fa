use Rattle.packet_kinds.proofs.SmallReplies.{answers_are_small}
use Rattle.packet_kinds.proofs.replies.an_answer_may_be_written.Goals as goal

pub returns : goal.returns
returns c = answers_are_small
