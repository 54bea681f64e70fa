use Rattle.delivery_model.proofs.Runs.{gone_late}
use Rattle.delivery_model.proofs.laws.late_where_gone.Goals as goal

pub returns : goal.returns
returns c = gone_late
