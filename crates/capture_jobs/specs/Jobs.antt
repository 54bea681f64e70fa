-- Jobs on their way to an encoder and back, as contracts see them. This project's own.
use Rattle.std.specs.Prelude.{ℕ, ◌≡◌}
use Rattle.xp_base.specs.Captures.{Captured}
use Rattle.rgb_encoders.specs.Encoding.{Encoding}

-- a job: its number, the connection and the window that it is for, and what it captured
pub record EncodingJob : Type 0 where
  pub number : ℕ
  pub conn : ℕ
  pub wid : ℕ
  pub capture : Captured

-- a job with its encoding
pub record FinishedJob : Type 0 where
  pub job : EncodingJob
  pub encoding : Encoding

-- the encoding is that of the job's own capture
pub record IsOwnResult (d : FinishedJob) : Type 0 where
  pub own : d.encoding.capture ≡ d.job.capture
