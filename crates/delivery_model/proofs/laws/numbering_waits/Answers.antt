use Rattle.delivery_model.proofs.Numberings.{numbered_later}
use Rattle.delivery_model.proofs.laws.numbering_waits.Goals as goal

pub returns : goal.returns
returns c = numbered_later
