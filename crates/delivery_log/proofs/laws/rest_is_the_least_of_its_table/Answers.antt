use Rattle.delivery_log.proofs.Distances.{rest_is_least, rest_of_is_least, pointwise_step}
use Rattle.delivery_log.proofs.laws.rest_is_the_least_of_its_table.Goals as goal

pub returns-clause-window : goal.returns-clause-window
returns-clause-window c = rest_is_least

pub returns-clause-client : goal.returns-clause-client
returns-clause-client c = rest_of_is_least

pub returns-clause-kept : goal.returns-clause-kept
returns-clause-kept c = pointwise_step
