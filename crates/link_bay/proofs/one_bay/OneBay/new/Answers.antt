use Rattle.std.proofs.Common.{arith}
use Rattle.link_bay.specs.ExactPeer.{follow}
use Rattle.link_bay.proofs.one_bay.OneBay.new.Goals as goal

pub invariant_of-result : goal.invariant_of-result
unfolding follow
invariant_of-result c = grind arith
