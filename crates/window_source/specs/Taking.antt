-- The jobs of one capture.
use Rattle.std.specs.Prelude.{ℕ, ◌≡◌, ◌+◌, Bool, None, List, [], ◌∷◌, ◌++◌, map}
use Rattle.std.specs.List.{AllByRecursion}
use Rattle.xp_base.specs.Points.{LiesIn, is_in}
use Rattle.rect_regions.specs.PointSets.{SamePoints, shared}
use Rattle.rect_regions.specs.BitRows.{AllWithin}
use Rattle.window_model.specs.Desktop.{Window}
use Rattle.delivery_model.specs.Grids.{has as has_mark}
use Rattle.delivery_model.specs.Events.{Planned, region_taken}
use Rattle.draw_sequencer.specs.InHand.{HeldJob, IsFree}
use Rattle.capture_jobs.specs.Captured.{captured_from}
use Rattle.capture_jobs.specs.Jobs.{EncodingJob}
use Rattle.window_source.specs.Source.{SourceSeen, alone}

-- the points that a capture of the source takes: they lie in the window
pub record IsTaken {R : Type 0} (has : R → ℕ → ℕ → Bool) (s : SourceSeen) (region : R) : Type 0 where
  pub taken : SamePoints (has region) (has_mark (region_taken (alone s)))
  pub within : AllWithin s.wide s.high (has region)

-- the rectangles of a plan lie in a window of this size
abbrev pub AllLieIn : ℕ → ℕ → List Planned → Type 0
AllLieIn w h plan = AllByRecursion (λ (p : Planned). LiesIn w h p.rect) plan

-- the job of a rectangle: it has the window's pixels, relieves its part of the region, and has no encoding yet
pub record IsMade {R : Type 0} (has : R → ℕ → ℕ → Bool) (window : Window) (region : R) (number : ℕ) (p : Planned) (j : HeldJob R) : Type 0 where
  pub numbered : j.number ≡ number
  pub captured : j.capture ≡ captured_from window p.rect p.coding
  pub relieves : SamePoints (has j.relief) (shared (has region) (is_in p.rect))
  pub waits : j.encoded ≡ None

-- those of a plan, numbered from the first on
abbrev pub AreMade : {R : Type 0} → (R → ℕ → ℕ → Bool) → Window → R → ℕ → List Planned → List (HeldJob R) → Type 0
AreMade has window region first [] [] = Unit {0}
AreMade has window region first [] (j ∷ jobs) = ⊥
AreMade has window region first (p ∷ plan) [] = ⊥
AreMade has window region first (p ∷ plan) (j ∷ jobs) = IsMade has window region first p j × AreMade has window region (first + 1) plan jobs

abbrev pub new_jobs : {R : Type 0} → ℕ → ℕ → List (HeldJob R) → List EncodingJob
new_jobs {R} conn wid jobs = map (λ (j : HeldJob R). record { number = j.number; conn = conn; wid = wid; capture = j.capture }) jobs

-- jobs that can be added one by one: their numbers rise, no job in hand has one, and none has its encoding
abbrev pub AreNew : {R : Type 0} → List (HeldJob R) → List (HeldJob R) → Type 0
AreNew {R} jobs [] = Unit {0}
AreNew {R} jobs (j ∷ more) = IsFree jobs j.number × (j.encoded ≡ None) × AreNew (jobs ++ j ∷ []) more
