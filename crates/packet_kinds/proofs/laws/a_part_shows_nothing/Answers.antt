use Rattle.packet_kinds.proofs.Following.{part_shows_nothing}
use Rattle.packet_kinds.proofs.laws.a_part_shows_nothing.Goals as goal

pub returns : goal.returns
returns c = part_shows_nothing
