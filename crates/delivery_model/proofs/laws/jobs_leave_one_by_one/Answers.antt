use Rattle.delivery_model.proofs.Leaving.{first_leaves, first_stays, none_leaves, leaving_takes}
use Rattle.delivery_model.proofs.laws.jobs_leave_one_by_one.Goals as goal

pub returns-clause-leaves : goal.returns-clause-leaves
returns-clause-leaves c = first_leaves

pub returns-clause-stays : goal.returns-clause-stays
returns-clause-stays c = first_stays

pub returns-clause-none : goal.returns-clause-none
returns-clause-none c = none_leaves

pub returns-clause-numbers : goal.returns-clause-numbers
returns-clause-numbers c = leaving_takes
