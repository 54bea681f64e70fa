use Rattle.delivery_model.proofs.Grids.{empty-has_none, none-is_empty}
use Rattle.delivery_model.proofs.laws.empty_sets_have_no_point.Goals as goal

pub returns-clause-empty : goal.returns-clause-empty
returns-clause-empty c = empty-has_none

pub returns-clause-none : goal.returns-clause-none
returns-clause-none c = none-is_empty
