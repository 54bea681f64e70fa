use Rattle.capture_jobs.proofs.PlanningLemmas.{plans_suit}
use Rattle.capture_jobs.proofs.laws.plans_are_the_models.Goals as goal

pub returns : goal.returns
returns c = plans_suit
