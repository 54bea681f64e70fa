-- A job that an encoder brings back.
use Rattle.rgb_encoders.specs.Encoding.{encoding_of}
use Rattle.capture_jobs.specs.Jobs.{EncodingJob, FinishedJob}

-- the job with the encoding of what it captured
abbrev pub finished : EncodingJob → FinishedJob
finished job = record { job = job; encoding = encoding_of job.capture }
