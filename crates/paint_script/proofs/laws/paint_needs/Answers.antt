use Rattle.paint_script.proofs.OpenedNumbers.{paint_needs_lem}
use Rattle.paint_script.proofs.laws.paint_needs.Goals as goal

pub returns : goal.returns
returns c = paint_needs_lem
