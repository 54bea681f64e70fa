use Rattle.paint_script.proofs.OpenedNumbers.{opened_numbers_lem}
use Rattle.paint_script.proofs.laws.opened_numbers.Goals as goal

pub returns : goal.returns
returns c = opened_numbers_lem
