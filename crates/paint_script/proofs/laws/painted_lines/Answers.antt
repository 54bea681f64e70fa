use Rattle.paint_script.proofs.Desks.{painted_lines_lem}
use Rattle.paint_script.proofs.laws.painted_lines.Goals as goal

pub returns : goal.returns
returns c = painted_lines_lem
