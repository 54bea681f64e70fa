use Rattle.hello_caps.proofs.LastPairs.{last_there, none_there, there_none}
use Rattle.hello_caps.proofs.laws.the_last_pair_counts.Goals as goal

pub returns : goal.returns
returns c = record { there = last_there; nowhere = λ key pairs. (none_there key pairs, there_none key pairs) }
