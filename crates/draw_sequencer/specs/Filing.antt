-- What becomes of a result, and which job leaves next.
use Rattle.std.specs.Prelude.{ℕ, ◌≡◌, ◌≢◌, Option, Some, None, List, [], ◌∷◌, nat_eq, if◌then◌else◌}
use Rattle.rgb_encoders.specs.Encoding.{Encoding}
use Rattle.draw_sequencer.specs.declared.kept.Kept.{Kept}
use Rattle.draw_sequencer.specs.declared.kept.Kept.TheVariants as K
use Rattle.draw_sequencer.specs.InHand.{HeldJob, ReadyDraw, job_of}

-- the encoding of the job with this number came back
abbrev pub with_encoding : {R : Type 0} → List (HeldJob R) → ℕ → Encoding → List (HeldJob R)
with_encoding [] k e = []
with_encoding (j ∷ jobs) k e = if nat_eq j.number k then record j { encoded = Some e } ∷ jobs else j ∷ with_encoding jobs k e

-- the job with this number is in hand, with this capture
pub record IsInHand {R : Type 0} (jobs : List (HeldJob R)) (k : ℕ) (e : Encoding) : Type 0 where
  pub job : HeldJob R
  pub found : job_of jobs k ≡ Some job
  pub same : e.capture ≡ job.capture

-- or with another one
pub record IsOther {R : Type 0} (jobs : List (HeldJob R)) (k : ℕ) (e : Encoding) : Type 0 where
  pub job : HeldJob R
  pub found : job_of jobs k ≡ Some job
  pub differs : e.capture ≢ job.capture

-- a result with this number: the jobs before and after. It is late where no job in hand has the number, and foreign, and handed back,
-- where that job has another capture; captures are compared by value. A late or foreign result changes nothing.
abbrev pub FileGives : {R : Type 0} → List (HeldJob R) → List (HeldJob R) → ℕ → Encoding → Kept → Type 0
FileGives jobs jobs' k e K.Kept = IsInHand jobs k e × (jobs' ≡ with_encoding jobs k e)
FileGives jobs jobs' k e K.Late = (job_of jobs k ≡ None) × (jobs' ≡ jobs)
FileGives jobs jobs' k e (K.Foreign back) = IsOther jobs k e × (back ≡ e) × (jobs' ≡ jobs)

-- the first job has no encoding yet, or there is none
abbrev pub IsWaiting : {R : Type 0} → List (HeldJob R) → Type 0
IsWaiting [] = Unit {0}
IsWaiting (j ∷ jobs) = j.encoded ≡ None

-- the first job leaves where its encoding came back, and no other does
abbrev pub PopGives : {R : Type 0} → List (HeldJob R) → List (HeldJob R) → Option (ReadyDraw R) → Type 0
PopGives jobs jobs' None = IsWaiting jobs × (jobs' ≡ jobs)
PopGives jobs jobs' (Some r) =
    jobs ≡ record { number = r.number; capture = r.encoded.capture; relief = r.relief; encoded = Some r.encoded } ∷ jobs'
