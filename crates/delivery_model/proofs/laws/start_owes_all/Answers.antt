use Rattle.delivery_model.proofs.OwedSteps.{owed_started}
use Rattle.delivery_model.proofs.laws.start_owes_all.Goals as goal

pub returns : goal.returns
returns c = owed_started
