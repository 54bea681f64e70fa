-- What is kept of an attached client and the bytes sent to it: each window is the model's, so each pixel in which the client's
-- picture of these bytes differs from the desktop is owed.
use Rattle.std.specs.Prelude.{ℕ, ◌≡◌, ◌==◌, Bool, true, false, Option, Some, None, List, [], ◌∷◌, ◌++◌, ◌*◌, length, map, take}
use Rattle.std.specs.List.{AllByRecursion}
use Rattle.std.specs.Option.{option_map, option_and_then}
use Rattle.xp_base.specs.Keyed.{HasDistinctKeys}
use Rattle.xp_base.specs.Points.{Rectangle}
use Rattle.window_model.specs.Desktop.{Window, find_window, has_window}
use Rattle.window_model.specs.Geometry.{Geometry, geometry_of}
use Rattle.delivery_model.specs.Grids.{Grid}
use Rattle.delivery_model.specs.Window.{Window as Delivery}
use Rattle.delivery_model.specs.Kept.{IsKept}
use Rattle.packet_kinds.specs.declared.to_client.ToClient.{ToClient}
use Rattle.packet_kinds.specs.declared.to_client.ToClient.TheVariants as T
use Rattle.packet_kinds.specs.Effects.{effect}
use Rattle.packet_kinds.specs.Written.{Show}
use Rattle.client_outbox.specs.Outgoing.{WaitingPacket, Outgoing, IsBegun}
use Rattle.window_source.specs.Source.{SourceSeen, window_of}
use Rattle.window_source.specs.Waiting.{Queued, Waiting, Carries, waits_on, ReliefLies, client_limit}
use Rattle.client_delivery.specs.Attached.{AttachedSeen, source_key, find_source, grid_of}

-- the windows once all these messages were shown; none where a draw's bytes do not fit
abbrev pub effects : List ToClient → List Window → Option (List Window)
effects [] windows = Some windows
effects (m ∷ messages) windows = option_and_then (effects messages) (effect windows m)

abbrev pub messages_of : List Waiting → List ToClient
messages_of waiting = map (λ (w : Waiting). w.message) waiting

abbrev pub packets_of : List Waiting → List Queued
packets_of waiting = map (λ (w : Waiting). w.packet) waiting

-- the bytes of the first packet, none where none waits
abbrev pub front_bytes : List Queued → List ℕ
front_bytes [] = []
front_bytes (p ∷ packets) = p.bytes

-- a window has as many pixels as its size says
abbrev pub IsSized : Window → Type 0
IsSized window = length window.pixels ≡ window.w * window.h

-- The bytes sent are whole packets, which show these windows, and then what was taken of the first packet that waits; the packets
-- that wait carry these messages.
pub record IsOnItsWay (out : Outgoing (List Rectangle)) (sent : List ℕ) (windows : List Window) (waiting : List Waiting) : Type 0 where
  pub done : List ℕ
  pub sent_is : sent ≡ done ++ take out.taken (front_bytes out.packets)
  pub show : Show client_limit done windows
  pub sized : AllByRecursion IsSized windows
  pub packets : packets_of waiting ≡ out.packets
  pub carried : AllByRecursion Carries waiting
  pub begun : IsBegun out.packets out.taken

-- the windows' numbers, places and sizes from bottom to top
abbrev pub layout : List Window → List Geometry
layout windows = map geometry_of windows

-- once all that waits is written the client shows the desktop's windows in its order, with its places and sizes
pub record IsLaidOut (desk windows : List Window) (messages : List ToClient) : Type 0 where
  pub after : List Window
  pub shown : effects messages windows ≡ Some after
  pub laid : layout after ≡ layout desk

-- the message is on this window
abbrev pub concerns : ℕ → ToClient → Bool
concerns k (T.Hello caps) = false
concerns k (T.NewWindow wid x y w h) = k == wid
concerns k (T.LostWindow wid) = k == wid
concerns k (T.WindowResized wid w h) = k == wid
concerns k (T.WindowMoveResize wid x y w h) = k == wid
concerns k (T.RaiseWindow wid) = k == wid
concerns k (T.Draw wid x y w h coding bytes sequence stride) = k == wid
concerns k (T.PingEcho t) = false
concerns k (T.Disconnect reason) = false
concerns k T.Other = false

-- the message is a draw
abbrev pub is_draw : ToClient → Bool
is_draw (T.Draw wid x y w h coding bytes sequence stride) = true
is_draw m = false

-- the message takes this window away
abbrev pub loses : ℕ → ToClient → Bool
loses k (T.LostWindow wid) = k == wid
loses k m = false

-- a window and its source, where there are such: both or none, and of one size
abbrev pub AreOfOneSize : Option Window → Option SourceSeen → Type 0
AreOfOneSize None None = Unit {0}
AreOfOneSize None (Some s) = ⊥
AreOfOneSize (Some window) None = ⊥
AreOfOneSize (Some window) (Some s) = (s.wide ≡ window.w) × (s.high ≡ window.h)

-- the model's window with this number: the desktop's pixels, what the client shows, what waits, and the source
abbrev pub delivery : Window → List Window → List Waiting → SourceSeen → Delivery
delivery window windows waiting s =
    window_of s window.pixels (option_map grid_of (find_window windows window.wid)) (waits_on s.wide s.high window.wid waiting)

-- A client that shows these windows and waits for these packets, beside the desktop and the numbers that were ever opened.
pub record IsDelivered (desk : List Window) (opened : ℕ → Bool) (sources : List SourceSeen) (windows : List Window) (waiting : List Waiting) : Type 0 where
  pub laid : IsLaidOut desk windows (messages_of waiting)
  pub distinct : HasDistinctKeys source_key sources
  pub sized : (k : ℕ) → AreOfOneSize (find_window desk k) (find_source sources k)
  pub kept : (k : ℕ) (window : Window) (s : SourceSeen) → find_window desk k ≡ Some window → find_source sources k ≡ Some s → IsKept (delivery window windows waiting s)
  pub lies : (k : ℕ) (s : SourceSeen) → find_source sources k ≡ Some s → AllByRecursion (ReliefLies s.wide s.high k) waiting
  -- a number that no line so far has opened has no window and no packet
  pub absent : (k : ℕ) → opened k ≡ false → (find_window windows k ≡ None) × AllByRecursion (λ (w : Waiting). concerns k w.message ≡ false) waiting
  pub begun : (k : ℕ) → has_window desk k ≡ true → opened k ≡ true
  -- no packet that waits takes a window of the desktop away
  pub stays : (k : ℕ) → has_window desk k ≡ true → AllByRecursion (λ (w : Waiting). loses k w.message ≡ false) waiting

-- what is kept of an attached client and the bytes sent to it
pub record IsTold (desk : List Window) (opened : ℕ → Bool) (a : AttachedSeen) (sent : List ℕ) : Type 0 where
  pub windows : List Window
  pub waiting : List Waiting
  pub bytes : IsOnItsWay a.out sent windows waiting
  pub delivered : IsDelivered desk opened a.sources windows waiting
