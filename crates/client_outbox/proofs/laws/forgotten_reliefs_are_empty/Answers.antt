use Rattle.client_outbox.proofs.Relieved.{forgotten_empty}
use Rattle.client_outbox.proofs.laws.forgotten_reliefs_are_empty.Goals as goal

pub returns : goal.returns
returns g c = forgotten_empty g.R.Points.has
