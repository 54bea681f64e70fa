-- Jobs in hand as a part of the model's window of one client.
use Rattle.std.specs.Prelude.{ℕ, ◌≡◌, Bool, is_some, List, map}
use Rattle.rect_regions.specs.BitRows.{AllWithin}
use Rattle.delivery_model.specs.Grids.{points}
use Rattle.delivery_model.specs.Window.{Job, Window}
use Rattle.draw_sequencer.specs.InHand.{HeldJob, relieve}

-- a job of a window of this size, as the model has it
abbrev pub job_seen : {R : Type 0} → (R → ℕ → ℕ → Bool) → ℕ → ℕ → HeldJob R → Job
job_seen has wide high j = record {
  number = j.number;
  capture = j.capture;
  relief = points wide high (has j.relief);
  encoded = is_some j.encoded;
}

abbrev pub jobs_seen : {R : Type 0} → (R → ℕ → ℕ → Bool) → ℕ → ℕ → List (HeldJob R) → List Job
jobs_seen {R} has wide high jobs = map (λ (j : HeldJob R). job_seen has wide high j) jobs

-- the window, of this size, has these jobs in hand
pub record AreJobsOf {R : Type 0} (has : R → ℕ → ℕ → Bool) (wide high : ℕ) (jobs : List (HeldJob R)) (w : Window) : Type 0 where
  pub within : AllWithin wide high (relieve has jobs)
  pub held : w.jobs ≡ jobs_seen has wide high jobs
