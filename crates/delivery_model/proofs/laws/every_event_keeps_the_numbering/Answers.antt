use Rattle.delivery_model.proofs.Numberings.{numbered_step}
use Rattle.delivery_model.proofs.laws.every_event_keeps_the_numbering.Goals as goal

pub returns : goal.returns
returns c = numbered_step
