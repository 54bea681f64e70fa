use Rattle.packet_kinds.proofs.Replying.{replies_go_on, replies_stop}
use Rattle.packet_kinds.proofs.replies.replies_only_go_on.Goals as goal

pub returns : goal.returns
returns c = record {
  more = replies_go_on;
  stop = replies_stop;
}
