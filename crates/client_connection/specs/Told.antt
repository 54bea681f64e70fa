-- What a session keeps of a client and the bytes sent to it: each pixel in which the client's picture of these bytes
-- differs from the desktop is owed.
use Rattle.std.specs.Prelude.{ℕ, pos, ◌≡◌, ◌*◌, true, false, Option, Some, None, List, [], ◌∷◌, ◌++◌, length, map, take, All}
use Rattle.xp_base.specs.declared.coding.Coding.TheVariants.{Exact}
use Rattle.window_model.specs.Desktop.{Window, find_window, has_window}
use Rattle.delivery_model.specs.Kept.{IsKept}
use Rattle.packet_kinds.specs.declared.to_client.ToClient.{ToClient}
use Rattle.packet_kinds.specs.declared.to_client.ToClient.TheVariants as T
use Rattle.packet_kinds.specs.Effects.{effect}
use Rattle.packet_kinds.specs.Written.{IsMessage, Show}
use Rattle.client_connection.specs.declared.packet.Packet.{Packet}
use Rattle.client_connection.specs.declared.packet.Draw.{Draw}
use Rattle.client_connection.specs.declared.source.Source.{Source}
use Rattle.client_connection.specs.declared.geometry.Geometry.{Geometry}
use Rattle.client_connection.specs.PointSets.{IsPointSet}
use Rattle.client_connection.specs.Wire.{client_limit, geometry_of}
use Rattle.client_connection.specs.Clients.{ClientSeen, IsTaken}
use Rattle.client_connection.specs.Delivery.{waiting_on, find_source, delivery}

-- what is kept of a packet is what it draws, where its message is a draw, and nothing else
abbrev pub IsDrawOf : Option Draw → ToClient → Type 0
IsDrawOf None (T.Draw wid x y w h coding bytes sequence stride) = ⊥
IsDrawOf (Some d) (T.Draw wid x y w h coding bytes sequence stride) =
    (d.wid ≡ wid) × (d.rect ≡ record { x = x; y = y; w = w; h = h }) × (d.coding ≡ coding) × (sequence ≡ pos d.sequence)
IsDrawOf None m = Unit {0}
IsDrawOf (Some d) m = ⊥

-- the messages of the first path: those that are built so far
abbrev pub IsOfFirstPath : ToClient → Type 0
IsOfFirstPath (T.Hello caps) = Unit {0}
IsOfFirstPath (T.NewWindow wid x y w h) = Unit {0}
IsOfFirstPath (T.LostWindow wid) = ⊥
IsOfFirstPath (T.WindowResized wid w h) = ⊥
IsOfFirstPath (T.WindowMoveResize wid x y w h) = ⊥
IsOfFirstPath (T.RaiseWindow wid) = ⊥
IsOfFirstPath (T.Draw wid x y w h coding bytes sequence stride) = coding ≡ Exact
IsOfFirstPath (T.PingEcho t) = ⊥
IsOfFirstPath (T.Disconnect reason) = ⊥
IsOfFirstPath T.Other = ⊥

-- the packet's bytes are this message
pub record Carries (p : Packet) (m : ToClient) : Type 0 where
  pub message : IsMessage client_limit p.bytes m
  pub draw : IsDrawOf p.draw m
  pub built : IsOfFirstPath m

-- each packet that waits, in order
abbrev pub CarryAll : List Packet → List ToClient → Type 0
CarryAll [] [] = Unit {0}
CarryAll [] (m ∷ messages) = ⊥
CarryAll (p ∷ packets) [] = ⊥
CarryAll (p ∷ packets) (m ∷ messages) = Carries p m × CarryAll packets messages

-- the windows once all these messages were shown; none where a draw's bytes do not fit
abbrev pub after_some : Option (List Window) → (List Window → Option (List Window)) → Option (List Window)
after_some None next = None
after_some (Some windows) next = next windows

abbrev pub effects : List ToClient → List Window → Option (List Window)
effects [] windows = Some windows
effects (m ∷ messages) windows = after_some (effect windows m) (effects messages)

-- the windows' numbers, places and sizes from bottom to top
abbrev pub layout : List Window → List Geometry
layout windows = map geometry_of windows

-- the bytes of the first packet, none where none waits
abbrev pub front_bytes : List Packet → List ℕ
front_bytes [] = []
front_bytes (p ∷ packets) = p.bytes

-- once all that waits is written the client shows the desktop's windows in its order, with its places and sizes
pub record IsLaidOut (desk windows : List Window) (messages : List ToClient) : Type 0 where
  pub after : List Window
  pub shown : effects messages windows ≡ Some after
  pub laid : layout after ≡ layout desk

-- the sources of a client are those of the desktop's windows, in its order
abbrev pub AreSources : List Window → List Source → Type 0
AreSources desk sources = map (λ (s : Source). s.wid) sources ≡ map (λ (w : Window). w.wid) desk

-- A client whose hello was accepted, that shows these windows and waits for these messages.
pub record IsDelivered (desk : List Window) (sources : List Source) (packets : List Packet) (windows : List Window) (messages : List ToClient) : Type 0 where
  pub laid : IsLaidOut desk windows messages
  pub sourced : AreSources desk sources
  pub sets : All (λ (s : Source). IsPointSet s.pending) sources
  -- each window of the desktop is kept in the form that gives "shown unless owed"
  pub kept : (k : ℕ) (window : Window) (s : Source) → find_window desk k ≡ Some window → find_source sources k ≡ Some s
      → IsKept (delivery window (find_window windows k) (waiting_on k packets messages) s)
  -- no packet is on a window that the desktop has not, and the client shows none
  pub absent : (k : ℕ) → has_window desk k ≡ false → (find_window windows k ≡ None) × (waiting_on k packets messages ≡ [])

-- The bytes sent are whole packets, which show these windows, and then what of the first packet was taken.
pub record IsTold (desk : List Window) (c : ClientSeen) (sent : List ℕ) : Type 0 where
  pub done : List ℕ
  pub windows : List Window
  pub messages : List ToClient
  pub sent_is : sent ≡ done ++ take c.taken (front_bytes c.packets)
  pub show : Show client_limit done windows
  pub sized : All (λ (w : Window). length w.pixels ≡ w.w * w.h) windows
  pub carried : CarryAll c.packets messages
  pub part : IsTaken c.packets c.taken
  -- before its hello was accepted a client shows nothing, has no source and waits for nothing
  pub empty : c.greeted ≡ false → windows ≡ []
  pub unattached : c.greeted ≡ false → c.sources ≡ []
  pub unspoken : c.greeted ≡ false → c.packets ≡ []
  pub delivered : c.greeted ≡ true → IsDelivered desk c.sources c.packets windows messages

-- the same of the bytes that the provider tells; where it tells none, of some bytes
abbrev pub IsToldFor : List Window → ClientSeen → Option (List ℕ) → Type 0
IsToldFor desk c None = (sent : List ℕ) × IsTold desk c sent
IsToldFor desk c (Some sent) = IsTold desk c sent
