use Rattle.xp_base.proofs.KeyedLemmas.{keyed_keeps_lem}
use Rattle.xp_base.proofs.laws.keyed_keeps.Goals as goal

pub returns : goal.returns
returns g c = keyed_keeps_lem _
