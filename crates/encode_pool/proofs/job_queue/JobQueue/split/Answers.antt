use Rattle.encode_pool.proofs.QueueSteps.{forks}
use Rattle.encode_pool.proofs.job_queue.JobQueue.split.Goals as goal

pub another-pass-requires-clause-rule : goal.another-pass-requires-clause-rule
another-pass-requires-clause-rule c = forks _ _ c.requires.first
