use Rattle.delivery_model.proofs.Runs.{kept_step}
use Rattle.delivery_model.proofs.laws.every_event_keeps_the_form.Goals as goal

pub returns : goal.returns
returns c = kept_step
