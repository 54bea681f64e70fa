-- What filing and leaving come to.
use Rattle.std.specs.Prelude.{ℕ, ◌≡◌, ◌+◌, Bool, Some, None, is_some, List, [], ◌∷◌, map, if◌then◌else◌}
use Rattle.rgb_encoders.specs.Encoding.{Encoding}
use Rattle.draw_sequencer.specs.InHand.{HeldJob, ReadyDraw, count_leaving, relieve}
use Rattle.draw_sequencer.specs.Filing.{with_encoding, PopGives}
use Rattle.draw_sequencer.specs.Kept.{AreDistinct}

-- how many jobs at the front have their encodings
abbrev pub count_ready : {R : Type 0} → List (HeldJob R) → ℕ
count_ready [] = 0
count_ready (j ∷ jobs) = if is_some j.encoded then 1 + count_ready jobs else 0

abbrev pub numbers_of : {R : Type 0} → List (HeldJob R) → List ℕ
numbers_of {R} jobs = map (λ (j : HeldJob R). j.number) jobs

-- what would leave is what is ready once the job has its encoding
abbrev pub LeavingAreReady : Type 0 → Type 0
LeavingAreReady R = (jobs : List (HeldJob R)) (k : ℕ) (e : Encoding) → AreDistinct jobs → count_leaving jobs k ≡ count_ready (with_encoding jobs k e)

-- one that leaves was ready, and where none leaves none was
abbrev pub ReadyLeaves : Type 0 → Type 0
ReadyLeaves R = (jobs left : List (HeldJob R)) (r : ReadyDraw R) → PopGives jobs left (Some r) → count_ready jobs ≡ 1 + count_ready left

abbrev pub NoneIsReady : Type 0 → Type 0
NoneIsReady R = (jobs left : List (HeldJob R)) → PopGives jobs left None → count_ready jobs ≡ 0

-- a result changes neither the jobs' order nor what they relieve
abbrev pub OrderStays : Type 0 → Type 0
OrderStays R = (jobs : List (HeldJob R)) (k : ℕ) (e : Encoding) → numbers_of (with_encoding jobs k e) ≡ numbers_of jobs

abbrev pub ReliefsStay : {R : Type 0} → (R → ℕ → ℕ → Bool) → Type 0
ReliefsStay {R} has =
    (jobs : List (HeldJob R)) (k : ℕ) (e : Encoding) (x y : ℕ) → relieve has (with_encoding jobs k e) x y ≡ relieve has jobs x y
