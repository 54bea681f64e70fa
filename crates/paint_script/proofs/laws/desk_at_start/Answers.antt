use Rattle.paint_script.proofs.Desks.{desk_at_start_lem}
use Rattle.paint_script.proofs.laws.desk_at_start.Goals as goal

pub returns : goal.returns
returns c = desk_at_start_lem
