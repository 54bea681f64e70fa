-- What each step keeps of a client, and how it changes what the client is owed. This project's own.
use Rattle.std.specs.Prelude.{ℕ, ◌≡◌, ◌==◌, Bool, true, false, ◌&&◌, ◌||◌, if◌then◌else◌, Option, Some, List, [], ◌∷◌, drop}
use Rattle.std.specs.List.{list_any}
use Rattle.xp_base.specs.Points.{Rectangle, is_in, is_within}
use Rattle.link_bay.specs.Connections.{ConnectionRecord}
use Rattle.window_model.specs.Desktop.{Window, IsWindow, IsDesktop, find_window}
use Rattle.first_script.specs.declared.paint.Paint.{Paint}
use Rattle.first_script.specs.Painting.{painted}
use Rattle.first_script.specs.Validity.{IsPaintOn}
use Rattle.client_connection.specs.declared.answers.Sent.{Sent}
use Rattle.client_connection.specs.declared.answers.Captured.{Captured}
use Rattle.client_connection.specs.declared.packet.Packet.{Packet}
use Rattle.client_connection.specs.declared.source.Source.{Source}
use Rattle.client_connection.specs.declared.geometry.Geometry.{Geometry}
use Rattle.client_connection.specs.Clients.{ClientSeen, fresh_client, attached, announced, damaged, captured, painted_client}
use Rattle.client_connection.specs.Owed.{source_owes, draw_relieves, client_owes}
use Rattle.client_connection.specs.Hearing.{Hears, after_maps}
use Rattle.client_connection.specs.Sending.{Writes}
use Rattle.client_connection.specs.Capturing.{HasSource, CapturesWindow}
use Rattle.client_connection.specs.Told.{IsTold, IsToldFor}

-- a paint line, a read, a capture and a write keep of a client that each differing pixel is owed
abbrev pub PaintKeeps : Type 0
PaintKeeps = (desk : List Window) (line : Paint) (c : ClientSeen) (sent : List ℕ) → IsDesktop desk → IsPaintOn desk line
    → IsTold desk c sent → IsTold (painted desk line) (painted_client line c) sent

abbrev pub HearingKeeps : Type 0
HearingKeeps = (lines : List Paint) (desk : List Window) (sent bytes : List ℕ) (c c' : ClientSeen) → IsDesktop desk → Hears lines desk c bytes c' → IsTold desk c sent → IsTold desk c' sent

abbrev pub CaptureKeeps : Type 0
CaptureKeeps = (desk : List Window) (window : Window) (sent : List ℕ) (c c' : ClientSeen) (answer : Captured) → IsWindow window → find_window desk window.wid ≡ Some window
    → CapturesWindow window c answer c' → IsTold desk c sent → IsTold desk c' sent

abbrev pub WriteKeeps : Type 0
WriteKeeps = (desk : List Window) (most : ℕ) (was now : ConnectionRecord) (c c' : ClientSeen) (answer : Sent) → Writes most was now c answer c'
    → IsToldFor desk c was.sent → IsToldFor desk c' now.sent

-- the desktop has the point
abbrev pub on_desk : List Window → ℕ → ℕ → ℕ → Bool
on_desk desk wid x y = list_any (λ (w : Window). (w.wid == wid) && is_within w.w w.h x y) desk

-- a fill: what was owed, and the rectangle
abbrev pub FillOwes : Type 0
FillOwes = (desk : List Window) (c : ClientSeen) (sent : List ℕ) (filled : ℕ) (r : Rectangle) (wid x y : ℕ) → IsDesktop desk → IsTold desk c sent → c.greeted ≡ true
    → client_owes wid x y (damaged filled r c) ≡ (client_owes wid x y c || ((filled == wid) && (on_desk desk wid x y && is_in r x y)))

-- a window is opened: what was owed, and the whole new window
abbrev pub OpenOwes : Type 0
OpenOwes = (g : Geometry) (c : ClientSeen) (wid x y : ℕ) → c.greeted ≡ true → client_owes wid x y (announced g c) ≡ (client_owes wid x y c || ((g.wid == wid) && is_within g.w g.h x y))

-- a hello is accepted: the whole of each window of the desktop
abbrev pub AttachOwes : Type 0
AttachOwes = (desk : List Window) (c : ClientSeen) (wid x y : ℕ) → client_owes wid x y (attached desk c) ≡ on_desk desk wid x y

-- maps: as before
abbrev pub MapsOwe : Type 0
MapsOwe = (window : Option Geometry) (count : ℕ) (rest : List ℕ) (c : ClientSeen) (wid x y : ℕ) → client_owes wid x y (after_maps window count rest c) ≡ client_owes wid x y c

-- a capture: as before
abbrev pub CaptureOwes : Type 0
CaptureOwes = (window : Window) (place : ℕ) (s : Source) (c : ClientSeen) (wid x y : ℕ) → HasSource window.wid c place s → client_owes wid x y (captured window place s c) ≡ client_owes wid x y c

-- what is owed but for the first packet: a point is to be captured, or a draw behind the first repairs it
abbrev pub owes_behind : ℕ → ℕ → ℕ → ClientSeen → Bool
owes_behind wid x y c = list_any (λ s. source_owes wid x y s) c.sources || list_any (λ (p : Packet). draw_relieves wid x y p.draw) (drop 1 c.packets)

abbrev pub front_relieves : List Packet → ℕ → ℕ → ℕ → Bool
front_relieves [] wid x y = false
front_relieves (p ∷ packets) wid x y = draw_relieves wid x y p.draw

-- the first packet was wholly written: what was owed, but for the points in its relief, which are owed where something else
-- owes them
abbrev pub WriteOwes : Type 0
WriteOwes = (c : ClientSeen) (wid x y : ℕ) → client_owes wid x y (record c { packets = drop 1 c.packets; taken = 0 })
    ≡ (if front_relieves c.packets wid x y then owes_behind wid x y c else client_owes wid x y c)

-- a connection that was just accepted is owed nothing
abbrev pub FreshOwes : Type 0
FreshOwes = (wid x y : ℕ) → client_owes wid x y fresh_client ≡ false

-- bytes that are no whole packet yet, read or written: as before
abbrev pub PartsOwe : Type 0
PartsOwe = (c : ClientSeen) (maps taken : ℕ) (unread : List ℕ) (wid x y : ℕ) → client_owes wid x y (record c { maps = maps; taken = taken; unread = unread }) ≡ client_owes wid x y c
