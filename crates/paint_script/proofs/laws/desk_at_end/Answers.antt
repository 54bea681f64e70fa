use Rattle.paint_script.proofs.Desks.{desk_at_end_lem}
use Rattle.paint_script.proofs.laws.desk_at_end.Goals as goal

pub returns : goal.returns
returns c = desk_at_end_lem
