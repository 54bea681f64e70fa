-- What a thread uses a queue by.
use Rattle.encode_pool.specs.Passes.{IsPassIn, IsFirst}
use Rattle.encode_pool.specs.declared.job_pass.JobPass.{JobPass}
use Rattle.encode_pool.specs.declared.job_queue.JobQueue.{JobQueue}

-- it is the first pass of this queue
abbrev pub IsFirstIn : JobQueue → JobPass → Type 0
IsFirstIn queue pass = IsPassIn queue pass × IsFirst pass
