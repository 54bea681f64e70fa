use Rattle.delivery_model.proofs.Numberings.{distinct}
use Rattle.delivery_model.proofs.laws.rising_is_distinct.Goals as goal

pub returns : goal.returns
returns c = distinct
