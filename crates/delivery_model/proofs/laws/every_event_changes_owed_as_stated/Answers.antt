use Rattle.delivery_model.proofs.OwedSteps.{owed_changed}
use Rattle.delivery_model.proofs.laws.every_event_changes_owed_as_stated.Goals as goal

pub returns : goal.returns
returns c = owed_changed
