-- The draws of the jobs that leave once a result is kept, made before anything changes.
use Rattle.std.specs.Prelude.{ℕ, ◌≡◌, ◌+◌, Bool, Option, Some, is_some, nat_eq, List, [], ◌∷◌, ◌++◌, true, if◌then◌else◌}
use Rattle.rect_regions.specs.PointSets.{SamePoints, united}
use Rattle.rgb_encoders.specs.Encoding.{Encoding}
use Rattle.delivery_model.specs.Window.{Sent}
use Rattle.draw_sequencer.specs.InHand.{HeldJob}
use Rattle.capture_jobs.specs.Jobs.{FinishedJob}
use Rattle.lossy_refresh.specs.LossyPoints.{LossySeen, IsSame, Queues}
use Rattle.packet_kinds.specs.declared.to_client.ToClient.{ToClient}
use Rattle.packet_kinds.specs.Written.{IsMessage}
use Rattle.client_outbox.specs.Outgoing.{WaitingPacket, Outgoing}
use Rattle.window_source.specs.Waiting.{client_limit, IsDraw}
use Rattle.window_source.specs.Drawn.{IsDrawOf}

-- the jobs at the front whose encodings came back, and the others
abbrev pub ready_jobs : {R : Type 0} → List (HeldJob R) → List (HeldJob R)
ready_jobs [] = []
ready_jobs (j ∷ jobs) = if is_some j.encoded then j ∷ ready_jobs jobs else []

abbrev pub staying_jobs : {R : Type 0} → List (HeldJob R) → List (HeldJob R)
staying_jobs [] = []
staying_jobs (j ∷ jobs) = if is_some j.encoded then staying_jobs jobs else j ∷ jobs

-- a job's encoding once the result with this number and encoding is kept
abbrev pub encoding_with : {R : Type 0} → ℕ → Encoding → HeldJob R → Option Encoding
encoding_with k e j = if nat_eq j.number k then Some e else j.encoded

-- where the job has the result's number it has its capture
abbrev pub IsOwnIfNamed : {R : Type 0} → FinishedJob → HeldJob R → Type 0
IsOwnIfNamed d j = nat_eq j.number d.job.number ≡ true → d.encoding.capture ≡ j.capture

-- these packets were put behind all that wait
abbrev pub PutsAll : {R : Type 0} → List (WaitingPacket R) → Outgoing R → Outgoing R → Type 0
PutsAll packets o o' = o' ≡ record o { packets = o.packets ++ packets }

-- the message is the draw of the encoding with this number
abbrev pub Draws : ℕ → ℕ → Encoding → ToClient → Type 0
Draws wid number e message = IsDraw (Some wid) (Some (record { sequence = number; rect = e.capture.rect; coding = e.capture.coding })) e.capture.pixels message

-- and so are the bytes
pub record SaysDraw (wid number : ℕ) (e : Encoding) (bytes : List ℕ) : Type 0 where
  pub message : ToClient
  pub says : IsMessage client_limit bytes message
  pub draw : Draws wid number e message

-- a job's draw: the packet of its encoding, which relieves what the job relieved and the points that stop being lossy
pub record IsDraft {R : Type 0} (has : R → ℕ → ℕ → Bool) (wid now sequence : ℕ) (e : Encoding) (relief : R) (old new : LossySeen R) (p : WaitingPacket R) : Type 0 where
  pub gone : R
  pub queues : Queues has e.capture.rect e.capture.coding now old new gone
  pub joined : SamePoints (has p.relief) (united (has relief) (has gone))
  pub packet : IsDrawOf wid e sequence p.relief p

-- the draws of several jobs, one after another, from these lossy points to those
abbrev pub AreDrafts : {R : Type 0} → (R → ℕ → ℕ → Bool) → ℕ → ℕ → ℕ → List (HeldJob R) → LossySeen R → List (WaitingPacket R) → LossySeen R → Type 0
AreDrafts has wid now sequence [] old [] new = new ≡ old
AreDrafts has wid now sequence [] old (p ∷ packets) new = ⊥
AreDrafts has wid now sequence (j ∷ jobs) old [] new = ⊥
AreDrafts {R} has wid now sequence (j ∷ jobs) old (p ∷ packets) new =
    (e : Encoding) × (next : LossySeen R) × (j.encoded ≡ Some e) × (e.capture ≡ j.capture) × IsDraft has wid now sequence e j.relief old next p
    × AreDrafts has wid now (sequence + 1) jobs next packets new

-- the draws of the jobs that leave, from a copy of the lossy points
pub record Drafted {R : Type 0} (has : R → ℕ → ℕ → Bool) (wid now sequence : ℕ) (jobs : List (HeldJob R)) (old : LossySeen R) (packets : List (WaitingPacket R)) (new : LossySeen R) : Type 0 where
  pub start : LossySeen R
  pub same : IsSame has old start
  pub drafts : AreDrafts has wid now sequence (ready_jobs jobs) start packets new

-- they are unacknowledged from now on
abbrev pub sent_from : {R : Type 0} → ℕ → List (HeldJob R) → List Sent
sent_from sequence [] = []
sent_from sequence (j ∷ jobs) = record { sequence = sequence; rect = j.capture.rect } ∷ sent_from (sequence + 1) jobs
