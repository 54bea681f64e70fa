use Rattle.delivery_log.proofs.Agreements.{run_owed_is_stale}
use Rattle.delivery_log.proofs.laws.runs_owe_what_is_stale.Goals as goal

pub returns : goal.returns
returns c = run_owed_is_stale
