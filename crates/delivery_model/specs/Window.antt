-- One window of one client: what the server has of it, what waits, and what the client shows.
use Rattle.std.specs.Prelude.{ℕ, Bool, Option, List}
use Rattle.xp_base.specs.Points.{Rectangle}
use Rattle.xp_base.specs.Captures.{Captured}
use Rattle.delivery_model.specs.Grids.{Points, Grid}

-- a job in hand: its number, what it captured, the points that it relieves, and whether its encoding came back
pub record Job : Type 0 where
  pub number : ℕ
  pub capture : Captured
  pub relief : Points
  pub encoded : Bool

-- a draw that is not wholly written: its bytes are the coding of what was captured
pub record Draw : Type 0 where
  pub sequence : ℕ
  pub capture : Captured
  pub relief : Points

-- a packet that waits to be written
pub data Packet : Type 0 where
  -- the window is new at the client, and has this size
  NewWindow : ℕ → ℕ → Packet
  -- it has this size from now on
  WindowResized : ℕ → ℕ → Packet
  Draws : Draw → Packet

-- a draw that was queued and is not acknowledged
pub record Sent : Type 0 where
  pub sequence : ℕ
  pub rect : Rectangle

pub record Window : Type 0 where
  -- the desktop's window
  pub desk : Grid
  -- the client's window, as the packets written so far make it; none where it has no such window
  pub client : Option Grid
  -- waiting packets, the oldest first
  pub packets : List Packet
  -- jobs in hand, in the order of their captures
  pub jobs : List Job
  -- damaged points that no capture took, and since when
  pub pending : Points
  pub pending_since : ℕ
  -- points that the client shows, or will show, by a lossy draw, and since when
  pub lossy : Points
  pub lossy_since : ℕ
  pub unacknowledged : List Sent
  pub next_sequence : ℕ
  pub mapped : Bool
  -- milliseconds from the first damage to the earliest capture
  pub delay : ℕ
