use Rattle.encode_pool.proofs.QueueSteps.{begins}
use Rattle.encode_pool.proofs.job_queue.JobQueue.new.Goals as goal

pub ruled-requires-clause-rule : goal.ruled-requires-clause-rule
ruled-requires-clause-rule c = begins
