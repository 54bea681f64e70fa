use Rattle.connection_ends.proofs.Staying.{same_desk}
use Rattle.connection_ends.proofs.laws.only_settled_speaks_of_the_desktop.Goals as goal

pub returns : goal.returns
returns c = same_desk
