use Rattle.encode_pool.specs.Passes.{seen}
use Rattle.encode_pool.proofs.QueueSteps.{pops, learns}
use Rattle.encode_pool.proofs.QueueLessons.{all_if_none}
use Rattle.encode_pool.proofs.job_queue.JobQueue.pop.Goals as goal

pub pop_as-requires-clause-rule : goal.pop_as-requires-clause-rule
pop_as-requires-clause-rule g c = (pops _ _ c.args.pass.now.live, learns _ _)

pub returns-clause-all : goal.returns-clause-all
returns-clause-all g c = all_if_none (seen c.args.pass.now) _ _ c.pop_as.result c.pop_as.ensures.rule
