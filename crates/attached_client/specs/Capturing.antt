-- What a capture and a result come to for a client: what its source answers, and what becomes of the source and the packets that wait.
use Rattle.std.specs.Prelude.{ℕ, ◌≡◌, Bool, Option, Some, None, List}
use Rattle.xp_base.specs.Keyed.{keyed_change}
use Rattle.xp_base.specs.Points.{Rectangle}
use Rattle.rect_regions.specs.PointSets.{has}
use Rattle.delivery_model.specs.Events.{Planned}
use Rattle.window_model.specs.Desktop.{Window, find_window}
use Rattle.capture_jobs.specs.Jobs.{EncodingJob, FinishedJob}
use Rattle.capture_jobs.specs.declared.answers.Filed.{Filed}
use Rattle.capture_jobs.specs.declared.answers.Filed.TheVariants as F
use Rattle.client_outbox.specs.Outgoing.{Outgoing}
use Rattle.client_outbox.specs.Reliefs.{is_busy}
use Rattle.window_source.specs.declared.capturing.Mode.{Mode}
use Rattle.window_source.specs.declared.capturing.Caught.{Caught}
use Rattle.window_source.specs.declared.capturing.Caught.TheVariants as C
use Rattle.window_source.specs.Source.{SourceSeen}
use Rattle.window_source.specs.Capturing.{AnswersAs, CaptureGives}
use Rattle.window_source.specs.Drawn.{FileGives}
use Rattle.client_delivery.specs.Attached.{source_key, find_source}
use Rattle.client_delivery.specs.Delivered.{IsTold}
use Rattle.client_delivery.specs.Steps.{GivingBack, quiet, changes_source}
use Rattle.attached_client.specs.Client.{ClientSeen, weight}
use Rattle.attached_client.specs.Drawing.{Drawing, Capturing, Filing, ClientDraws}

-- the source of window k is this one, and these packets wait
abbrev pub with_source : ℕ → SourceSeen → Outgoing (List Rectangle) → ClientSeen → ClientSeen
with_source k source out c = record c { seen = record { sources = keyed_change source_key c.seen.sources k (λ s. source); out = out } }

-- the window's source answers, by the client's weight, whether it takes lossy draws, and whether a draw of the window waits
pub record CapturesBy (mode : Mode) (now first : ℕ) (window : Window) (s : SourceSeen) (c : ClientSeen) (caught : Caught) (c' : ClientSeen) : Type 0 where
  pub source : SourceSeen
  pub answer : AnswersAs mode now (weight c.seen) first (is_busy s.wid c.seen.out.packets) s caught
  pub gives : CaptureGives c.caps.lossy first (is_busy s.wid c.seen.out.packets) window.pixels s caught source
  pub client : c' ≡ with_source window.wid source c.seen.out c

-- by whether the client has the window
abbrev pub CapturesWhere : Option SourceSeen → Mode → ℕ → ℕ → Window → ClientSeen → Option Caught → ClientSeen → Type 0
CapturesWhere None mode now first window c None c' = c' ≡ c
CapturesWhere None mode now first window c (Some caught) c' = ⊥
CapturesWhere (Some s) mode now first window c None c' = ⊥
CapturesWhere (Some s) mode now first window c (Some caught) c' = CapturesBy mode now first window s c caught c'

abbrev pub ClientCaptures : Mode → ℕ → ℕ → Window → ClientSeen → Option Caught → ClientSeen → Type 0
ClientCaptures mode now first window c answer c' = CapturesWhere (find_source c.seen.sources window.wid) mode now first window c answer c'

-- a result is filed with the window's source, whose draws come behind all that wait
pub record FilesBy (k now : ℕ) (s : SourceSeen) (c : ClientSeen) (done : FinishedJob) (answer : Filed) (c' : ClientSeen) : Type 0 where
  pub source : SourceSeen
  pub out : Outgoing (List Rectangle)
  pub gives : FileGives has done now s source c.seen.out out answer
  pub client : c' ≡ with_source k source out c

-- of a window that the client has not every result is late
abbrev pub FilesWhere : Option SourceSeen → ℕ → ℕ → ClientSeen → FinishedJob → Filed → ClientSeen → Type 0
FilesWhere None k now c done answer c' = (answer ≡ F.Late) × (c' ≡ c)
FilesWhere (Some s) k now c done answer c' = FilesBy k now s c done answer c'

abbrev pub ClientFiles : ℕ → ℕ → ClientSeen → FinishedJob → Filed → ClientSeen → Type 0
ClientFiles k now c done answer c' = FilesWhere (find_source c.seen.sources k) k now c done answer c'

-- all jobs in hand of window k are given back
abbrev pub recalled : ℕ → ℕ → ClientSeen → ClientSeen
recalled k now c = record c { seen = changes_source k (quiet (GivingBack now)) c.seen }

-- jobs that were made are a capture of a window of the desktop, and a result that was filed is one
abbrev pub CapturedIsDrawn : Type 0
CapturedIsDrawn = (desk : List Window) (were_opened : ℕ → Bool) (mode : Mode) (now first : ℕ) (window : Window) (jobs : List EncodingJob) (c c' : ClientSeen) (sent : List ℕ) → find_window desk window.wid ≡ Some window
    → IsTold desk were_opened c.seen sent → ClientCaptures mode now first window c (Some (C.Jobs jobs)) c' → (plan : List Planned) × ClientDraws desk now (Capturing window plan first) c c'

abbrev pub FiledIsDrawn : Type 0
FiledIsDrawn = (desk : List Window) (k now : ℕ) (c c' : ClientSeen) (done : FinishedJob) → ClientFiles k now c done F.Filed c' → ClientDraws desk now (Filing k done.job.number done.job.capture) c c'
