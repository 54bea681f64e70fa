-- What happens to an attached client, step by step. Each step is met by what it makes of the sources and of the packets.
use Rattle.std.specs.Prelude.{ℕ, ◌≡◌, ◌≤◌, ◌≢◌, Bool, true, Option, Some, None, List, [], ◌∷◌, ◌++◌, map, length, ℤ}
use Rattle.std.specs.List.{AllByRecursion}
use Rattle.xp_base.specs.Captures.{Captured}
use Rattle.xp_base.specs.Keyed.{keyed_push, keyed_change, keyed_remove}
use Rattle.xp_base.specs.Points.{Rectangle}
use Rattle.bencode_values.specs.declared.value.Value.{Value}
use Rattle.rect_regions.specs.PointSets.{has}
use Rattle.delivery_model.specs.Window.{Window as Delivery, Packet}
use Rattle.delivery_model.specs.Grids.{Grid}
use Rattle.xp_base.specs.Points.{whole}
use Rattle.delivery_model.specs.Events.{Planned, captured, filed, resized, unmapped, given_back, acknowledged, damaged}
use Rattle.delivery_model.specs.Plans.{IsCaptureOf}
use Rattle.window_model.specs.Desktop.{Window}
use Rattle.window_model.specs.Geometry.{Geometry}
use Rattle.packet_kinds.specs.declared.to_client.ToClient.{ToClient}
use Rattle.packet_kinds.specs.declared.to_client.ToClient.TheVariants as T
use Rattle.client_outbox.specs.Outgoing.{WaitingPacket, Outgoing, with_packet}
use Rattle.client_outbox.specs.Reliefs.{Emptied, ClippedTo, ReliefsChange}
use Rattle.client_outbox.specs.Sending.{advanced}
use Rattle.window_source.specs.Source.{SourceSeen, window_of, source_of, after}
use Rattle.window_source.specs.Waiting.{Queued, Waiting, Carries, waits_on, ReliefLies}
use Rattle.client_delivery.specs.Attached.{AttachedSeen, source_key, find_source, started_source}
use Rattle.client_delivery.specs.Delivered.{messages_of, packets_of}
use Rattle.client_delivery.specs.Numbered.{numbered_on}

-- the packet of a message that is no draw
abbrev pub structure : Queued → ToClient → Waiting
structure p m = record { packet = p; message = m; pixels = [] }

-- a packet of this message, which is no draw, was put behind all that wait
pub record Puts (m : ToClient) (o o' : Outgoing (List Rectangle)) : Type 0 where
  pub packet : Queued
  pub carries : Carries (structure packet m)
  pub put : o' ≡ with_packet o packet

-- a window's announcement
abbrev pub announces : Window → ToClient
announces window = T.NewWindow window.wid window.x window.y window.w window.h

-- a client was attached at this moment: its packets are the server's hello and each window's announcement, from bottom to top
pub record Attaches (desk : List Window) (conn now : ℕ) (a : AttachedSeen) : Type 0 where
  pub sources : a.sources ≡ map (started_source conn now) desk
  pub taken : a.out.taken ≡ 0
  pub waiting : List Waiting
  pub packets : packets_of waiting ≡ a.out.packets
  pub carried : AllByRecursion Carries waiting
  pub hello : Option Value
  pub messages : messages_of waiting ≡ T.Hello hello ∷ map announces desk

-- the source of the window with this number makes an event of the model that asks for no pixels and no packets
abbrev pub changes_source : ℕ → (Delivery → Delivery) → AttachedSeen → AttachedSeen
changes_source k event a = record a { sources = keyed_change source_key a.sources k (after event) }

-- events of one window that ask for no pixels and no packets: what a client says, and giving back
pub data Quiet : Type 0 where
  Mapping : Quiet
  Unmapping : ℕ → Quiet
  GivingBack : ℕ → Quiet
  -- the number, and whether the time is negative
  Acknowledging : ℕ → Bool → ℕ → Quiet
  Refreshing : ℕ → Quiet

abbrev pub quiet : Quiet → Delivery → Delivery
quiet Mapping w = record w { mapped = true }
quiet (Unmapping now) w = unmapped now w
quiet (GivingBack now) w = given_back now w
quiet (Acknowledging number negative now) w = acknowledged number negative now w
quiet (Refreshing now) w = damaged (whole w.desk.wide w.desk.high) now w

-- a window was opened
pub record Opens (window : Window) (conn now : ℕ) (a a' : AttachedSeen) : Type 0 where
  pub sources : a'.sources ≡ keyed_push a.sources (started_source conn now window)
  pub put : Puts (announces window) a.out a'.out

-- a window was closed: its waiting draws relieve nothing more
pub record Closes (k : ℕ) (a a' : AttachedSeen) : Type 0 where
  pub sources : a'.sources ≡ keyed_remove source_key a.sources k
  pub between : Outgoing (List Rectangle)
  pub reliefs : ReliefsChange (Emptied has) k a.out.packets between.packets
  pub taken : between.taken ≡ a.out.taken
  pub put : Puts (T.LostWindow k) between a'.out

-- a window has another size: reliefs are clipped to it
pub record Resizes (k w h now : ℕ) (a a' : AttachedSeen) : Type 0 where
  pub sources : a'.sources ≡ keyed_change source_key a.sources k (after (resized w h now))
  pub between : Outgoing (List Rectangle)
  pub reliefs : ReliefsChange (ClippedTo has w h) k a.out.packets between.packets
  pub taken : between.taken ≡ a.out.taken
  pub put : Puts (T.WindowResized k w h) between a'.out

-- a window has another place, or is on top
pub record PutsAlone (m : ToClient) (a a' : AttachedSeen) : Type 0 where
  pub sources : a'.sources ≡ a.sources
  pub put : Puts m a.out a'.out

-- a window was captured, where it is not clean: these rectangles of it, by jobs numbered from here on
pub record Captures (window : Window) (plan : List Planned) (first : ℕ) (a a' : AttachedSeen) : Type 0 where
  pub source : SourceSeen
  pub found : find_source a.sources window.wid ≡ Some source
  pub planned : IsCaptureOf (window_of source window.pixels None (numbered_on window.wid a.out.packets)) plan
  pub sources : a'.sources ≡ keyed_change source_key a.sources window.wid (λ s. source_of s.conn s.wid (captured plan first (window_of s window.pixels None [])))
  pub out : a'.out ≡ a.out

-- A result was filed with the source of this window: the draws that left the jobs in hand were put behind all that wait. For
-- all pixels, and whatever waits, this is the model's event.
pub record Files (k number : ℕ) (capture : Captured) (now : ℕ) (a a' : AttachedSeen) : Type 0 where
  pub source : SourceSeen
  pub found : find_source a.sources k ≡ Some source
  pub source' : SourceSeen
  pub wid_stays : source'.wid ≡ source.wid
  pub wide_stays : source'.wide ≡ source.wide
  pub high_stays : source'.high ≡ source.high
  pub sources : a'.sources ≡ keyed_change source_key a.sources k (λ s. source')
  pub drawn : List Waiting
  pub carried : AllByRecursion Carries drawn
  pub own : AllByRecursion (λ (w : Waiting). w.packet.wid ≡ Some k) drawn
  pub lies : AllByRecursion (ReliefLies source.wide source.high k) drawn
  pub put : a'.out ≡ record a.out { packets = a.out.packets ++ packets_of drawn }
  pub event : (numbers : List ℕ) (client : Option Grid) (packets : List Packet)
      → window_of source' numbers client (packets ++ waits_on source.wide source.high k drawn) ≡ filed number capture now (window_of source numbers client packets)

-- so many bytes more of the first packet were taken
abbrev pub writes : ℕ → AttachedSeen → AttachedSeen
writes n a = record a { out = advanced a.out n }
