use Rattle.packet_kinds.proofs.Talks.{continues}
use Rattle.packet_kinds.proofs.heard.more_bytes_only_say_more.Goals as goal

pub returns : goal.returns
returns c = continues
