use Rattle.connection_ends.proofs.Staying.{stays}
use Rattle.connection_ends.proofs.laws.causes_stay.Goals as goal

pub returns : goal.returns
returns c = stays c.more_bytes_only_say_more.ensures
