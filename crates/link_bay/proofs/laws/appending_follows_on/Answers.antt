use Rattle.link_bay.proofs.ExactPeers.{follow-append}
use Rattle.link_bay.proofs.laws.appending_follows_on.Goals as goal

pub returns : goal.returns
returns c = follow-append
