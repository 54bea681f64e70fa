-- What is kept of the jobs in hand.
use Rattle.std.specs.Prelude.{ℕ, ◌≡◌, ◌≤◌, ◌<◌, ◌*◌, ◌^◌, None, List, [], ◌∷◌, length, take, slice_index_or}
use Rattle.xp_base.specs.Points.{area}
use Rattle.draw_sequencer.specs.InHand.{HeldJob, job_of, all_pixels}

-- no two jobs have one number
abbrev pub AreDistinct : {R : Type 0} → List (HeldJob R) → Type 0
AreDistinct [] = Unit {0}
AreDistinct (j ∷ jobs) = (job_of jobs j.number ≡ None) × AreDistinct jobs

abbrev pub AreSmall : {R : Type 0} → List (HeldJob R) → Type 0
AreSmall [] = Unit {0}
AreSmall (j ∷ jobs) = (area j.capture.rect ≤ 4096 * 4096) × AreSmall jobs

-- the jobs as they are kept, with the number of their pixels
pub record IsSequencer {R : Type 0} (jobs : List (HeldJob R)) (pixels : ℕ) : Type 0 where
  pub distinct : AreDistinct jobs
  pub small : AreSmall jobs
  pub few : length jobs ≤ 2 ^ 31
  pub counted : pixels ≡ all_pixels jobs

-- the job with this number stands at place i, and none in front of it has it
pub record IsPlaceOf {R : Type 0} (jobs : List (HeldJob R)) (k i : ℕ) : Type 0 where
  pub within : i < length jobs
  pub before : job_of (take i jobs) k ≡ None
  pub here : (j : HeldJob R) → j ≡ slice_index_or jobs i j → j.number ≡ k
