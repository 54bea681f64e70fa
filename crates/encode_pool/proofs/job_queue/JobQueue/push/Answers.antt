use Rattle.encode_pool.proofs.QueueSteps.{pushes, learns}
use Rattle.encode_pool.proofs.job_queue.JobQueue.push.Goals as goal

pub push_as-requires-clause-rule : goal.push_as-requires-clause-rule
push_as-requires-clause-rule g c = (pushes _ _ _ _ c.requires.first, learns _ _)
