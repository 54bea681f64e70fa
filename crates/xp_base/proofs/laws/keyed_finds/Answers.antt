use Rattle.xp_base.proofs.KeyedLemmas.{keyed_finds_lem}
use Rattle.xp_base.proofs.laws.keyed_finds.Goals as goal

pub returns : goal.returns
returns g c = keyed_finds_lem _
