-- What is kept of a source.
use Rattle.std.specs.Prelude.{ℕ, ◌≡◌, ◌+◌, ◌<◌, ◌≤◌, ◌^◌, Bool, true, List, [], ◌∷◌, length}
use Rattle.std.specs.List.{AllByRecursion}
use Rattle.xp_base.specs.Points.{LiesIn, is_in}
use Rattle.window_model.specs.Desktop.{IsSide}
use Rattle.rect_regions.specs.BitRows.{AllWithin}
use Rattle.delivery_model.specs.Window.{Sent}
use Rattle.draw_sequencer.specs.InHand.{HeldJob}

-- a job's rectangle lies in a window of this size, and what it relieves in its rectangle
pub record JobLies {R : Type 0} (has : R → ℕ → ℕ → Bool) (w h : ℕ) (j : HeldJob R) : Type 0 where
  pub lies : LiesIn w h j.capture.rect
  pub relief : (x y : ℕ) → has j.relief x y ≡ true → is_in j.capture.rect x y ≡ true

-- each job in hand has a greater number than those before it
abbrev pub AreRising : {R : Type 0} → List (HeldJob R) → Type 0
AreRising [] = Unit {0}
AreRising {R} (j ∷ jobs) = AllByRecursion (λ (k : HeldJob R). j.number < k.number) jobs × AreRising jobs

-- the unacknowledged draws have numbers below this one
abbrev pub AreSentBefore : ℕ → List Sent → Type 0
AreSentBefore next sent = AllByRecursion (λ (s : Sent). s.sequence < next) sent

-- the window's sides; jobs, pending and lossy points lie in it; job numbers rise; sequence numbers are below the next one; the load
pub record IsSource {R : Type 0} (has : R → ℕ → ℕ → Bool) (w h : ℕ) (jobs : List (HeldJob R)) (waiting blurred : R) (sent : List Sent) (next : ℕ) : Type 0 where
  pub wide : IsSide w
  pub high : IsSide h
  pub lie : AllByRecursion (JobLies has w h) jobs
  pub pending : AllWithin w h (has waiting)
  pub lossy : AllWithin w h (has blurred)
  pub rising : AreRising jobs
  pub before : AreSentBefore next sent
  pub numbered : 1 ≤ next
  pub few : length jobs + length sent < 2 ^ 31
