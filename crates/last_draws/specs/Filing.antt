-- Results that are filed one after another with a client's window, at one moment.
use Rattle.std.specs.Prelude.{ℕ, ◌≡◌, List, [], ◌∷◌}
use Rattle.capture_jobs.specs.Jobs.{EncodingJob, FinishedJob}
use Rattle.encode_pool.specs.Finished.{finished}
use Rattle.capture_jobs.specs.declared.answers.Filed.{Filed}
use Rattle.capture_jobs.specs.declared.answers.Filed.TheVariants as F
use Rattle.attached_client.specs.Client.{ClientSeen}
use Rattle.attached_client.specs.Capturing.{ClientFiles}

-- a result, and what was answered
pub record Call : Type 0 where
  pub done : FinishedJob
  pub answer : Filed

abbrev pub FilesBy : ℕ → ℕ → List Call → ClientSeen → ClientSeen → Type 0
FilesBy k now [] c c' = c' ≡ c
FilesBy k now (call ∷ calls) c c' = (next : ClientSeen) × ClientFiles k now c call.done call.answer next × FilesBy k now calls next c'

-- some results, whatever was answered
abbrev pub FilesSome : ℕ → ℕ → ClientSeen → ClientSeen → Type 0
FilesSome k now c c' = (calls : List Call) × FilesBy k now calls c c'

-- those of these jobs in their order, and each was filed
abbrev pub FilesThrough : ℕ → ℕ → List EncodingJob → ClientSeen → ClientSeen → Type 0
FilesThrough k now [] c c' = c' ≡ c
FilesThrough k now (job ∷ jobs) c c' = (next : ClientSeen) × ClientFiles k now c (finished job) F.Filed next × FilesThrough k now jobs next c'
