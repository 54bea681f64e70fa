-- A board, on which a worker finds jobs and files results, as contracts see it. This project's own.
use Rattle.std.specs.Prelude.{ℕ, ◌≡◌, max, Bool, true, false, Option, Some, None}
use Rattle.xp_base.specs.Captures.{Captured}
use Rattle.xp_base.specs.Counts.{count_sum, Rose}
use Rattle.capture_jobs.specs.Jobs.{EncodingJob, FinishedJob}
use Rattle.capture_jobs.specs.declared.answers.Taken.{Taken}
use Rattle.capture_jobs.specs.declared.answers.Taken.TheVariants as T
use Rattle.capture_jobs.specs.declared.answers.Filed.{Filed}
use Rattle.capture_jobs.specs.declared.answers.Filed.TheVariants as F

-- the number and the capture of a job that was handed out
pub record HandedOut : Type 0 where
  pub number : ℕ
  pub capture : Captured

-- what was handed out and is not filed yet, or none; how often a job was handed out, a result filed, no job found, and a stop told of
pub record Board : Type 0 where
  pub held : Option HandedOut
  pub taken : ℕ
  pub filed : ℕ
  pub nothings : ℕ
  pub stops : ℕ

abbrev pub handed_out : EncodingJob → HandedOut
handed_out job = record { number = job.number; capture = job.capture }

abbrev pub IsFree : Board → Type 0
IsFree board = board.held ≡ None

-- the result is that of what was handed out, by number and capture
abbrev pub IsHeld : Board → FinishedJob → Type 0
IsHeld board done = board.held ≡ Some (handed_out done.job)

-- a count that went up by so much; it stays at the greatest number once there
abbrev pub counted_up : ℕ → ℕ → ℕ
counted_up before more = max before (count_sum before more)

-- a job is held from then on; or there is none
abbrev pub TakeGives : Board → Board → Taken → Type 0
TakeGives old new (T.Job job) = new ≡ record old { held = Some (handed_out job); taken = counted_up old.taken 1 }
TakeGives old new T.Nothing = Rose old.nothings new.nothings × (new ≡ record old { nothings = new.nothings })

-- nothing is held from then on
abbrev pub released : Board → Board
released board = record board { held = None; filed = counted_up board.filed 1 }

-- every answer ends the holding but want of memory, which hands the result back
abbrev pub FileGives : Board → Board → FinishedJob → Filed → Type 0
FileGives old new done F.Filed = new ≡ released old
FileGives old new done F.Late = new ≡ released old
FileGives old new done (F.Foreign back) = new ≡ released old
FileGives old new done (F.Back back) = (back ≡ done) × (new ≡ old)

-- the worker is to stop only where a stop was told of
abbrev pub StopGives : Board → Board → Bool → Type 0
StopGives old new true = Rose old.stops new.stops × (new ≡ record old { stops = new.stops })
StopGives old new false = new ≡ old
