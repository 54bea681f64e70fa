use Rattle.client_outbox.proofs.Relieved.{relief_ends}
use Rattle.client_outbox.proofs.laws.a_relief_ends_with_its_last_byte.Goals as goal

pub returns : goal.returns
returns g c = relief_ends g.R.Points.has
