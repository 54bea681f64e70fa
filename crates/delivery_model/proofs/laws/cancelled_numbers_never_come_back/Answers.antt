use Rattle.delivery_model.proofs.Runs.{gone_run}
use Rattle.delivery_model.proofs.laws.cancelled_numbers_never_come_back.Goals as goal

pub returns : goal.returns
returns c = gone_run
