use Rattle.delivery_log.proofs.Agreements.{agrees_step}
use Rattle.delivery_log.proofs.laws.every_event_keeps_the_agreement.Goals as goal

pub returns : goal.returns
returns c = agrees_step
