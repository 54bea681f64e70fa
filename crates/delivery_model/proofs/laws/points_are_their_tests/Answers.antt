use Rattle.delivery_model.proofs.Grids.{has-points, points_alike}
use Rattle.delivery_model.proofs.laws.points_are_their_tests.Goals as goal

pub returns-clause-point : goal.returns-clause-point
returns-clause-point c = has-points

pub returns-clause-alike : goal.returns-clause-alike
returns-clause-alike c = points_alike
