use Rattle.delivery_model.proofs.Grids.{number-grid, grids_alike}
use Rattle.delivery_model.proofs.laws.grids_are_their_numbers.Goals as goal

pub returns-clause-point : goal.returns-clause-point
returns-clause-point c = number-grid

pub returns-clause-alike : goal.returns-clause-alike
returns-clause-alike c = grids_alike
