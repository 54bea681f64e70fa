use Rattle.paint_script.proofs.Desks.{desk_at_next_lem}
use Rattle.paint_script.proofs.laws.desk_at_next.Goals as goal

pub returns : goal.returns
returns c = desk_at_next_lem
