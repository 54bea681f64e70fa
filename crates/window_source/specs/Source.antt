-- A window's source, as contracts see it: the model's window of one client without the desktop's pixels, the client's window and
-- the packets that wait. This project's own.
use Rattle.std.specs.Prelude.{ℕ, ◌+◌, Bool, Option, None, List, [], ◌∷◌}
use Rattle.xp_base.specs.Points.{area}
use Rattle.delivery_model.specs.Grids.{Points, points, Grid}
use Rattle.delivery_model.specs.Window.{Job, Packet, Sent, Window}
use Rattle.delivery_model.specs.Events.{started}
use Rattle.draw_sequencer.specs.InHand.{HeldJob}
use Rattle.damage_batch.specs.Pending.{BatchSeen}
use Rattle.lossy_refresh.specs.LossyPoints.{LossySeen}
use Rattle.resize_cancel.specs.Delivery.{jobs_seen}

-- the connection and the window, the window's size in pixels, and all else that the model's window has of the source
pub record SourceSeen : Type 0 where
  pub conn : ℕ
  pub wid : ℕ
  pub wide : ℕ
  pub high : ℕ
  pub mapped : Bool
  pub jobs : List Job
  pub pending : Points
  pub pending_since : ℕ
  pub lossy : Points
  pub lossy_since : ℕ
  pub unacknowledged : List Sent
  pub next_sequence : ℕ
  pub delay : ℕ

-- the parts of a source as the model has them
abbrev pub seen : {R : Type 0} → (R → ℕ → ℕ → Bool) → ℕ → ℕ → ℕ → ℕ → Bool → List (HeldJob R) → BatchSeen R → LossySeen R → List Sent → ℕ → SourceSeen
seen has conn wid wide high mapped jobs batch lossy sent next = record {
  conn = conn;
  wid = wid;
  wide = wide;
  high = high;
  mapped = mapped;
  jobs = jobs_seen has wide high jobs;
  pending = points wide high (has batch.pending);
  pending_since = batch.since;
  lossy = points wide high (has lossy.points);
  lossy_since = lossy.since;
  unacknowledged = sent;
  next_sequence = next;
  delay = batch.delay;
}

-- the model's window, with the desktop's pixels row by row, what the client shows of it, and the packets on it that wait
abbrev pub window_of : SourceSeen → List ℕ → Option Grid → List Packet → Window
window_of s numbers client packets = record {
  desk = record { wide = s.wide; high = s.high; numbers = numbers };
  client = client;
  packets = packets;
  jobs = s.jobs;
  pending = s.pending;
  pending_since = s.pending_since;
  lossy = s.lossy;
  lossy_since = s.lossy_since;
  unacknowledged = s.unacknowledged;
  next_sequence = s.next_sequence;
  mapped = s.mapped;
  delay = s.delay;
}

-- what a source has of the model's window
abbrev pub source_of : ℕ → ℕ → Window → SourceSeen
source_of conn wid w = record {
  conn = conn;
  wid = wid;
  wide = w.desk.wide;
  high = w.desk.high;
  mapped = w.mapped;
  jobs = w.jobs;
  pending = w.pending;
  pending_since = w.pending_since;
  lossy = w.lossy;
  lossy_since = w.lossy_since;
  unacknowledged = w.unacknowledged;
  next_sequence = w.next_sequence;
  delay = w.delay;
}

-- a source alone, where pixels and packets play no part
abbrev pub alone : SourceSeen → Window
alone s = window_of s [] None []

-- the source after an event of the model that asks for no pixels and no packets
abbrev pub after : (Window → Window) → SourceSeen → SourceSeen
after event s = source_of s.conn s.wid (event (alone s))

-- a source as it begins: not mapped, the whole window pending since now
abbrev pub begun : ℕ → ℕ → ℕ → ℕ → ℕ → SourceSeen
begun conn wid w h now = source_of conn wid (started (record { wide = w; high = h; numbers = [] }) now)

-- the pixels of all jobs in hand
abbrev pub job_pixels : List Job → ℕ
job_pixels [] = 0
job_pixels (j ∷ jobs) = area j.capture.rect + job_pixels jobs
