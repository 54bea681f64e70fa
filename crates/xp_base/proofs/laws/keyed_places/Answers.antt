use Rattle.xp_base.proofs.KeyedLemmas.{keyed_places_lem}
use Rattle.xp_base.proofs.laws.keyed_places.Goals as goal

pub returns : goal.returns
returns g c = keyed_places_lem _
