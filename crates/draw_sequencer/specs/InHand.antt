-- Jobs in hand: captures that are being encoded, in the order in which they were captured. This project's own.
use Rattle.std.specs.Prelude.{ℕ, ◌≡◌, ◌+◌, Bool, ◌||◌, Option, Some, None, is_some, List, [], ◌∷◌, ◌++◌, slice_get, nat_eq, if◌then◌else◌}
use Rattle.std.specs.List.{list_any}
use Rattle.xp_base.specs.Captures.{Captured}
use Rattle.xp_base.specs.Points.{area}
use Rattle.rgb_encoders.specs.Encoding.{Encoding}

-- a job: its number, what it captured, the points that it relieves, and its encoding once that came back
pub record HeldJob (R : Type 0) : Type 0 where
  pub number : ℕ
  pub capture : Captured
  pub relief : R
  pub encoded : Option Encoding

-- an encoding is that of the capture
abbrev pub IsOwn : Option Encoding → Captured → Type 0
IsOwn None capture = Unit {0}
IsOwn (Some e) capture = e.capture ≡ capture

-- the jobs, and how many more can be taken without memory
pub record Jobs (R : Type 0) : Type 0 where
  pub jobs : List (HeldJob R)
  pub room : ℕ

-- a job whose encoding came back, as it leaves
pub record ReadyDraw (R : Type 0) : Type 0 where
  pub number : ℕ
  pub encoded : Encoding
  pub relief : R

abbrev pub new_job : {R : Type 0} → ℕ → Captured → R → HeldJob R
new_job number capture relief = record { number = number; capture = capture; relief = relief; encoded = None }

abbrev pub with_job : {R : Type 0} → List (HeldJob R) → ℕ → Captured → R → List (HeldJob R)
with_job jobs number capture relief = jobs ++ new_job number capture relief ∷ []

-- the first job with this number; no two in hand have one
abbrev pub job_of : {R : Type 0} → List (HeldJob R) → ℕ → Option (HeldJob R)
job_of [] k = None
job_of (j ∷ jobs) k = if nat_eq j.number k then Some j else job_of jobs k

-- a job stands at this place; a job has this number; no job has it
abbrev pub StandsAt : {R : Type 0} → List (HeldJob R) → ℕ → HeldJob R → Type 0
StandsAt jobs i j = slice_get jobs i ≡ Some j

abbrev pub HasNumber : {R : Type 0} → List (HeldJob R) → ℕ → HeldJob R → Type 0
HasNumber jobs k j = job_of jobs k ≡ Some j

abbrev pub IsFree : {R : Type 0} → List (HeldJob R) → ℕ → Type 0
IsFree jobs k = job_of jobs k ≡ None

abbrev pub relieve : {R : Type 0} → (R → ℕ → ℕ → Bool) → List (HeldJob R) → ℕ → ℕ → Bool
relieve {R} has jobs x y = list_any (λ (j : HeldJob R). has j.relief x y) jobs

-- how many pixels the captures have
abbrev pub all_pixels : {R : Type 0} → List (HeldJob R) → ℕ
all_pixels [] = 0
all_pixels (j ∷ jobs) = area j.capture.rect + all_pixels jobs

-- from the front, how many have their encoding, or would have it if the job with this number had
abbrev pub is_ready : {R : Type 0} → ℕ → HeldJob R → Bool
is_ready k j = is_some j.encoded || nat_eq j.number k

abbrev pub count_leaving : {R : Type 0} → List (HeldJob R) → ℕ → ℕ
count_leaving [] k = 0
count_leaving (j ∷ jobs) k = if is_ready k j then 1 + count_leaving jobs k else 0
