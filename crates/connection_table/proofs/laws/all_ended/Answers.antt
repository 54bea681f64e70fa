use Rattle.connection_table.proofs.Ends.{all_ended_lem}
use Rattle.connection_table.proofs.laws.all_ended.Goals as goal

pub returns : goal.returns
returns g c = all_ended_lem
