-- What a resize needs, made before anything changes, and what it comes to.
use Rattle.std.specs.Prelude.{ℕ, ◌≡◌, Bool, true, List}
use Rattle.rect_regions.specs.PointSets.{HasNone}
use Rattle.rect_regions.specs.BitRows.{AllWithin}
use Rattle.window_model.specs.Desktop.{IsSide}
use Rattle.delivery_model.specs.Grids.{points, has as has_mark}
use Rattle.delivery_model.specs.Events.{resized}
use Rattle.packet_kinds.specs.declared.to_client.ToClient.TheVariants as T
use Rattle.packet_kinds.specs.Written.{IsMessage}
use Rattle.client_outbox.specs.Outgoing.{WaitingPacket, Outgoing, other_packet, with_packet}
use Rattle.client_outbox.specs.Reliefs.{Clips, ClippedTo, ReliefsChange, AreClips}
use Rattle.resize_cancel.specs.Cancelled.{CarriedSeen}
use Rattle.window_source.specs.Source.{SourceSeen, after}
use Rattle.window_source.specs.Waiting.{client_limit}

-- the new size, what is carried over to it, the reliefs of waiting draws clipped to it, and the packet that says so
pub record ResizingSeen (R : Type 0) : Type 0 where
  pub wide : ℕ
  pub high : ℕ
  pub carried : CarriedSeen R
  pub clipped : Clips R
  pub packet : WaitingPacket R

-- it is for a window of this size
pub record IsOfSize {R : Type 0} (w h : ℕ) (z : ResizingSeen R) : Type 0 where
  pub wide : z.wide ≡ w
  pub high : z.high ≡ h

-- the packet of a window's new size, which is no draw
pub record SaysSize {R : Type 0} (has : R → ℕ → ℕ → Bool) (k w h : ℕ) (p : WaitingPacket R) : Type 0 where
  pub plain : p ≡ other_packet p.bytes p.relief
  pub message : IsMessage client_limit p.bytes (T.WindowResized k w h)
  pub relief : HasNone (has p.relief)

-- it was made of this source and these packets
pub record IsResizing {R : Type 0} (has : R → ℕ → ℕ → Bool) (s : SourceSeen) (packets : List (WaitingPacket R)) (z : ResizingSeen R) : Type 0 where
  pub pending_lies : AllWithin z.wide z.high (has z.carried.pending)
  pub pending : points z.wide z.high (has z.carried.pending) ≡ (after (resized z.wide z.high 0) s).pending
  pub lossy_lies : AllWithin z.wide z.high (has z.carried.lossy)
  pub lossy : points z.wide z.high (has z.carried.lossy) ≡ (after (resized z.wide z.high 0) s).lossy
  pub among : (x y : ℕ) → has z.carried.lossy x y ≡ true → has_mark s.lossy x y ≡ true
  pub clipped : AreClips has s.wid z.wide z.high packets z.clipped
  pub packet : SaysSize has s.wid z.wide z.high z.packet

-- a resize at the outbox: the reliefs of the window's draws are clipped, and its new size is put behind all that wait
pub record ResizesOutbox {R : Type 0} (has : R → ℕ → ℕ → Bool) (k w h : ℕ) (o o' : Outgoing R) : Type 0 where
  pub between : Outgoing R
  pub reliefs : ReliefsChange (ClippedTo has w h) k o.packets between.packets
  pub taken : between.taken ≡ o.taken
  pub packet : WaitingPacket R
  pub says : SaysSize has k w h packet
  pub put : o' ≡ with_packet between packet
