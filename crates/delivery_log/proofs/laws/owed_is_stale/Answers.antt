use Rattle.delivery_log.proofs.Agreements.{owed_is_stale, waits_where_stale_queued}
use Rattle.delivery_log.proofs.laws.owed_is_stale.Goals as goal

pub returns-clause-written : goal.returns-clause-written
returns-clause-written c = owed_is_stale

pub returns-clause-queued : goal.returns-clause-queued
returns-clause-queued c = waits_where_stale_queued
