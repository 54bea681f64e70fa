-- What a capture answers, and what it makes of a source.
use Rattle.std.specs.Prelude.{ℕ, ◌≡◌, ◌+◌, ◌-◌, ◌^◌, ◌<◌, length, Bool, Option, Some, None, IfSome, List, [], map}
use Rattle.std.specs.List.{AllByRecursion}
use Rattle.xp_base.specs.declared.due.Due.{Due}
use Rattle.rect_regions.specs.PointSets.{SamePoints}
use Rattle.window_model.specs.Desktop.{Window as DeskWindow}
use Rattle.delivery_model.specs.Grids.{has}
use Rattle.delivery_model.specs.Window.{Job, Packet, Window}
use Rattle.delivery_model.specs.Events.{Planned, is_empty, region_taken, jobs_of, captured}
use Rattle.delivery_model.specs.Plans.{IsPlan, IsCaptureOf}
use Rattle.delivery_model.specs.Refusals.{CaptureAnswer, Unmapped, Clean, Early, Congested, Heavy, Spent, Allowed, is_busy, capture_answer, last_capture_answer}
use Rattle.lossy_refresh.specs.Delivery.{TellsDue}
use Rattle.capture_jobs.specs.Jobs.{EncodingJob}
use Rattle.capture_jobs.specs.Planning.{IsPlanOf}
use Rattle.window_source.specs.declared.capturing.Mode.{Mode}
use Rattle.window_source.specs.declared.capturing.Mode.TheVariants as M
use Rattle.window_source.specs.declared.capturing.Caught.{Caught}
use Rattle.window_source.specs.declared.capturing.Caught.TheVariants as C
use Rattle.window_source.specs.Source.{SourceSeen, alone, window_of, source_of}

-- the model's answer: `weight` is that of the client's connection, `first` the next job's number
abbrev pub answer_in : Mode → ℕ → ℕ → ℕ → Window → CaptureAnswer
answer_in M.Live now weight first w = capture_answer now weight first w
answer_in M.Last now weight first w = last_capture_answer first w

-- what an answer says of the window; want of memory says nothing
abbrev pub told : Caught → Option CaptureAnswer
told (C.Jobs jobs) = Some Allowed
told C.Unmapped = Some Unmapped
told C.Clean = Some Clean
told (C.Early t) = Some (Early t)
told (C.Congested n) = Some (Congested n)
told (C.Heavy n) = Some (Heavy n)
told C.Spent = Some Spent
told C.NoMemory = None

-- the answer is the model's, whatever packets of the window wait, by whether a draw is among them
abbrev pub AnswersAs : Mode → ℕ → ℕ → ℕ → Bool → SourceSeen → Caught → Type 0
AnswersAs mode now weight first busy s caught =
    (packets : List Packet) → is_busy packets ≡ busy → IfSome (told caught) (λ a. answer_in mode now weight first (window_of s [] None packets) ≡ a)

-- a job on its way to an encoder
abbrev pub carrying : ℕ → ℕ → Job → EncodingJob
carrying conn wid j = record { number = j.number; conn = conn; wid = wid; capture = j.capture }

-- the jobs that a capture of these pixels makes, by a plan of the points that it takes, and the source after it
pub record Takes (lossy : Bool) (first : ℕ) (pixels : List ℕ) (s : SourceSeen) (jobs : List EncodingJob) (s' : SourceSeen) : Type 0 where
  pub plan : List Planned
  pub set : ℕ → ℕ → Bool
  pub taken : SamePoints set (has (region_taken (alone s)))
  pub rule : IsPlanOf set (is_empty s.pending) lossy plan
  pub planned : IsPlan (window_of s pixels None []) plan
  pub made : jobs ≡ map (carrying s.conn s.wid) (jobs_of (record { wide = s.wide; high = s.high; numbers = pixels }) (region_taken (alone s)) first plan)
  pub after : s' ≡ source_of s.conn s.wid (captured plan first (window_of s pixels None []))

-- where the window is not clean
pub record Captures (lossy : Bool) (first : ℕ) (busy : Bool) (pixels : List ℕ) (s : SourceSeen) (jobs : List EncodingJob) (s' : SourceSeen) : Type 0 where
  pub takes : Takes lossy first pixels s jobs s'
  pub planned : (packets : List Packet) → is_busy packets ≡ busy → IsCaptureOf (window_of s pixels None packets) takes.plan

-- a capture that is refused changes nothing
abbrev pub CaptureGives : Bool → ℕ → Bool → List ℕ → SourceSeen → Caught → SourceSeen → Type 0
CaptureGives lossy first busy pixels s (C.Jobs jobs) s' = Captures lossy first busy pixels s jobs s'
CaptureGives lossy first busy pixels s C.Unmapped s' = s' ≡ s
CaptureGives lossy first busy pixels s C.Clean s' = s' ≡ s
CaptureGives lossy first busy pixels s (C.Early t) s' = s' ≡ s
CaptureGives lossy first busy pixels s (C.Congested n) s' = s' ≡ s
CaptureGives lossy first busy pixels s (C.Heavy n) s' = s' ≡ s
CaptureGives lossy first busy pixels s C.Spent s' = s' ≡ s
CaptureGives lossy first busy pixels s C.NoMemory s' = s' ≡ s

-- a window of the desktop is the one that the source is of
pub record IsWindowOf (window : DeskWindow) (s : SourceSeen) : Type 0 where
  pub wid : window.wid ≡ s.wid
  pub wide : window.w ≡ s.wide
  pub high : window.h ≡ s.high

-- the number is above that of each job in hand
abbrev pub AllAbove : ℕ → List Job → Type 0
AllAbove first jobs = AllByRecursion (λ (j : Job). j.number < first) jobs

-- a capture of this window may be asked for, with jobs numbered from the first on
pub record MayCapture (window : DeskWindow) (first : ℕ) (s : SourceSeen) : Type 0 where
  pub window_is : IsWindowOf window s
  pub above : AllAbove first s.jobs
  pub few : length s.jobs + length s.unacknowledged < 2 ^ 31 - 32

-- the window may be captured; or this answer refuses it
abbrev pub IsAllowed : Mode → ℕ → ℕ → ℕ → Bool → SourceSeen → Type 0
IsAllowed mode now weight first busy s = (packets : List Packet) → is_busy packets ≡ busy → answer_in mode now weight first (window_of s [] None packets) ≡ Allowed

abbrev pub IsRefusal : Mode → ℕ → ℕ → ℕ → Bool → SourceSeen → Caught → Type 0
IsRefusal mode now weight first busy s (C.Jobs jobs) = ⊥
IsRefusal mode now weight first busy s C.Unmapped = AnswersAs mode now weight first busy s C.Unmapped
IsRefusal mode now weight first busy s C.Clean = AnswersAs mode now weight first busy s C.Clean
IsRefusal mode now weight first busy s (C.Early t) = AnswersAs mode now weight first busy s (C.Early t)
IsRefusal mode now weight first busy s (C.Congested n) = AnswersAs mode now weight first busy s (C.Congested n)
IsRefusal mode now weight first busy s (C.Heavy n) = AnswersAs mode now weight first busy s (C.Heavy n)
IsRefusal mode now weight first busy s C.Spent = AnswersAs mode now weight first busy s C.Spent
IsRefusal mode now weight first busy s C.NoMemory = ⊥

-- why the window may not be captured, where it may not
abbrev pub RefusalGives : Mode → ℕ → ℕ → ℕ → Bool → SourceSeen → Option Caught → Type 0
RefusalGives mode now weight first busy s None = IsAllowed mode now weight first busy s
RefusalGives mode now weight first busy s (Some answer) = IsRefusal mode now weight first busy s answer

-- whether something is to be captured now, whatever waits
abbrev pub IsDueIn : ℕ → Bool → SourceSeen → Due → Type 0
IsDueIn now busy s due = (packets : List Packet) → is_busy packets ≡ busy → TellsDue now (window_of s [] None packets) due
