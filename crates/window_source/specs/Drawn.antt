-- Draws that a source put behind all that wait.
use Rattle.std.specs.Prelude.{ℕ, ◌≡◌, Bool, Option, Some, None, List, [], ◌∷◌, ◌++◌, map}
use Rattle.std.specs.List.{AllByRecursion, flat_map}
use Rattle.xp_base.specs.Captures.{Captured}
use Rattle.rect_regions.specs.BitRows.{AllWithin}
use Rattle.rgb_encoders.specs.Encoding.{Encoding}
use Rattle.delivery_model.specs.Grids.{Grid, points}
use Rattle.delivery_model.specs.Window.{Packet, Draws}
use Rattle.delivery_model.specs.Events.{Filing, Late, Foreign, Filed, filing_of, capture_of, filed}
use Rattle.packet_kinds.specs.declared.to_client.ToClient.{ToClient}
use Rattle.packet_kinds.specs.Written.{IsMessage}
use Rattle.client_outbox.specs.declared.draw.Draw.{Draw}
use Rattle.client_outbox.specs.Outgoing.{WaitingPacket, Outgoing, draw_packet}
use Rattle.capture_jobs.specs.Jobs.{FinishedJob}
use Rattle.capture_jobs.specs.declared.answers.Filed.{Filed as Answer}
use Rattle.capture_jobs.specs.declared.answers.Filed.TheVariants as F
use Rattle.window_source.specs.Source.{SourceSeen, window_of}
use Rattle.window_source.specs.Waiting.{client_limit, IsDraw}

-- a draw's packet, its message, and the pixels that it captured
pub record Drawn (R : Type 0) : Type 0 where
  pub packet : WaitingPacket R
  pub message : ToClient
  pub pixels : List ℕ

-- its bytes are the message, which draws in this window; what it relieves lies in the window
pub record DrawsIn {R : Type 0} (has : R → ℕ → ℕ → Bool) (wide high wid : ℕ) (d : Drawn R) : Type 0 where
  pub message : IsMessage client_limit d.packet.bytes d.message
  pub draw : IsDraw d.packet.wid d.packet.draw d.pixels d.message
  pub own : d.packet.wid ≡ Some wid
  pub within : AllWithin wide high (has d.packet.relief)

-- what it is to the model
abbrev pub seen_as : {R : Type 0} → (R → ℕ → ℕ → Bool) → ℕ → ℕ → Drawn R → Option Draw → List Packet
seen_as has wide high d None = []
seen_as has wide high d (Some draw) = Draws (record {
  sequence = draw.sequence;
  capture = record { rect = draw.rect; coding = draw.coding; pixels = d.pixels };
  relief = points wide high (has d.packet.relief);
}) ∷ []

abbrev pub all_seen : {R : Type 0} → (R → ℕ → ℕ → Bool) → ℕ → ℕ → List (Drawn R) → List Packet
all_seen {R} has wide high drawn = flat_map (λ (d : Drawn R). seen_as has wide high d d.packet.draw) drawn

-- A result was filed: the draws that left the jobs in hand were put behind all that wait. For all pixels, and whatever waits, this
-- is the model's event.
pub record Files {R : Type 0} (has : R → ℕ → ℕ → Bool) (number : ℕ) (capture : Captured) (now : ℕ) (s s' : SourceSeen) (o o' : Outgoing R) : Type 0 where
  pub conn_stays : s'.conn ≡ s.conn
  pub wid_stays : s'.wid ≡ s.wid
  pub wide_stays : s'.wide ≡ s.wide
  pub high_stays : s'.high ≡ s.high
  pub drawn : List (Drawn R)
  pub draws : AllByRecursion (DrawsIn has s.wide s.high s.wid) drawn
  pub put : o' ≡ record o { packets = o.packets ++ map (λ (d : Drawn R). d.packet) drawn }
  pub event : (numbers : List ℕ) (client : Option Grid) (packets : List Packet)
      → window_of s' numbers client (packets ++ all_seen has s.wide s.high drawn) ≡ filed number capture now (window_of s numbers client packets)

-- nothing changes
pub record NothingFiled {R : Type 0} (s s' : SourceSeen) (o o' : Outgoing R) : Type 0 where
  pub source : s' ≡ s
  pub outbox : o' ≡ o

-- what a result is to the source: the job in hand with its number has its capture, there is none, or it has another
abbrev pub is_to : FinishedJob → SourceSeen → Filing
is_to d s = filing_of (capture_of s.jobs d.job.number) d.job.capture

-- by what was answered; what is handed back is the result given
abbrev pub FileGives : {R : Type 0} → (R → ℕ → ℕ → Bool) → FinishedJob → ℕ → SourceSeen → SourceSeen → Outgoing R → Outgoing R → Answer → Type 0
FileGives has d now s s' o o' F.Filed = (is_to d s ≡ Filed) × Files has d.job.number d.job.capture now s s' o o'
FileGives has d now s s' o o' F.Late = (is_to d s ≡ Late) × NothingFiled s s' o o'
FileGives has d now s s' o o' (F.Foreign back) = (is_to d s ≡ Foreign) × (back ≡ d) × NothingFiled s s' o o'
FileGives has d now s s' o o' (F.Back back) = (back ≡ d) × NothingFiled s s' o o'

-- the packet is the draw of this encoding with this number, and relieves these points
pub record IsDrawOf {R : Type 0} (wid : ℕ) (e : Encoding) (sequence : ℕ) (relief : R) (p : WaitingPacket R) : Type 0 where
  pub packet : p ≡ draw_packet wid (record { sequence = sequence; rect = e.capture.rect; coding = e.capture.coding }) p.bytes relief
  pub message : ToClient
  pub says : IsMessage client_limit p.bytes message
  pub draw : IsDraw p.wid p.draw e.capture.pixels message
