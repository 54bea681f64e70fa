use Rattle.client_connection.proofs.Talking.{built_says}
use Rattle.client_connection.proofs.laws.what_is_built_says_maps_alone.Goals as goal

pub returns : goal.returns
returns c = built_says
