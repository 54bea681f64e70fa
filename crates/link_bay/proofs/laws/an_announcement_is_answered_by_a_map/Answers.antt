use Rattle.std.proofs.Common.{refl}
use Rattle.link_bay.specs.ExactPeer.{push, follow}
use Rattle.link_bay.proofs.ExactPeers.{map_answers}
use Rattle.link_bay.proofs.laws.an_announcement_is_answered_by_a_map.Goals as goal

pub returns-clause-all : goal.returns-clause-all
returns-clause-all c = map_answers

pub returns-clause-example : goal.returns-clause-example
unfolding push follow
returns-clause-example c = refl
