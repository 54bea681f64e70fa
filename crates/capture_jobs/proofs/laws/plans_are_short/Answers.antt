use Rattle.capture_jobs.proofs.PlanningLemmas.{plans_short}
use Rattle.capture_jobs.proofs.laws.plans_are_short.Goals as goal

pub returns : goal.returns
returns c = plans_short
