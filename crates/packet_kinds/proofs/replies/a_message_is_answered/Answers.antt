use Rattle.packet_kinds.proofs.Replying.{message_is_answered, part_is_unanswered}
use Rattle.packet_kinds.proofs.replies.a_message_is_answered.Goals as goal

pub returns : goal.returns
returns c = record {
  whole = message_is_answered;
  part = part_is_unanswered;
}
