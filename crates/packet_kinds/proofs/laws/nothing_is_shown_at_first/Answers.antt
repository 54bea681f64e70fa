use Rattle.packet_kinds.proofs.Following.{nothing_shown, nothing_shows}
use Rattle.packet_kinds.proofs.laws.nothing_is_shown_at_first.Goals as goal

pub returns-clause-show : goal.returns-clause-show
returns-clause-show c = nothing_shows

pub returns-clause-picture : goal.returns-clause-picture
returns-clause-picture c = nothing_shown
