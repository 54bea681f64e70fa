-- The queue of jobs and its passes, as contracts see them.
use Rattle.std.specs.Prelude.{ℕ, ◌≡◌, ◌+◌, Bool, Option, Some, None, Ok, Err, Result}
use Rattle.crossbeam_queue.specs.Passes.{view, IsPassOf}
use Rattle.xp_base.specs.Lists.{IsSubsequence}
use Rattle.capture_jobs.specs.Jobs.{EncodingJob}
use Rattle.encode_pool.specs.Counting.{how_many, how_many_in}
use Rattle.encode_pool.specs.QueueRule.{with_pushed, with_popped, HeldSoMany}
use Rattle.encode_pool.specs.declared.queue_view.Standing.TheVariants as S
use Rattle.encode_pool.specs.declared.queue_view.QueueView.{QueueView}
use Rattle.encode_pool.specs.declared.job_pass.JobPass.{JobPass}
use Rattle.encode_pool.specs.declared.job_queue.JobQueue.{JobQueue}

-- what the pass knows
abbrev pub seen : JobPass → QueueView
seen p = view p.pass

-- it is a pass of this queue
abbrev pub IsPassIn : JobQueue → JobPass → Type 0
IsPassIn q p = IsPassOf q.queue p.pass

abbrev pub IsFirst : JobPass → Type 0
IsFirst p = (seen p).standing ≡ S.First

-- a push: the job stands at the end of what was pushed; or it is handed back, and at some moment the queue was full
abbrev pub PushGives : ℕ → QueueView → EncodingJob → QueueView → Result (Unit {0}) EncodingJob → Type 0
PushGives capacity old job new (Ok done) = new ≡ with_pushed old job
PushGives capacity old job new (Err back) = (back ≡ job) × (new ≡ old) × HeldSoMany capacity old

-- a pop: the job stands at the end of what the pass popped; or at some moment the queue was empty
abbrev pub PopGives : QueueView → QueueView → Option EncodingJob → Type 0
PopGives old new (Some job) = new ≡ with_popped old job
PopGives old new None = (new ≡ old) × HeldSoMany 0 old

-- of the first pass, once it took in every pass that it split off: they and it popped as many jobs of each kind as were pushed
abbrev pub AllCameOut : QueueView → Type 0
AllCameOut v = v.standing ≡ S.First → v.split_off ≡ 0 → (such : EncodingJob → Bool)
    → how_many such v.pushed ≡ how_many_in such v.taken + how_many such v.popped

abbrev pub AllOutIfNone : QueueView → Option EncodingJob → Type 0
AllOutIfNone v (Some job) = Unit {0}
AllOutIfNone v None = AllCameOut v

-- what was popped stands in what was pushed, in its order
abbrev pub WasPushed : QueueView → QueueView → Type 0
WasPushed other first = IsSubsequence other.popped first.pushed
