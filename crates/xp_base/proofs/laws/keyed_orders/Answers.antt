use Rattle.xp_base.proofs.KeyedLemmas.{keyed_orders_lem}
use Rattle.xp_base.proofs.laws.keyed_orders.Goals as goal

pub returns : goal.returns
returns g c = keyed_orders_lem _
