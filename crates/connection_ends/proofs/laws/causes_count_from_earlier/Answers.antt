use Rattle.connection_ends.proofs.Staying.{earlier}
use Rattle.connection_ends.proofs.laws.causes_count_from_earlier.Goals as goal

pub returns : goal.returns
returns c = earlier
