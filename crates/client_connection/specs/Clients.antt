-- What is kept of a connection that is open, and how steps change it.
use Rattle.std.specs.Prelude.{ℕ, ◌+◌, ◌≤◌, ◌<◌, ◌≡◌, ◌==◌, ◌-◌, Bool, true, false, if◌then◌else◌, nat_lt, Option, Some, None, List, [], ◌∷◌, ◌++◌, length, map, drop, slice_set, All}
use Rattle.xp_base.specs.Points.{Rectangle, whole}
use Rattle.xp_base.specs.declared.coding.Coding.TheVariants.{Exact}
use Rattle.window_model.specs.Desktop.{Window}
use Rattle.first_script.specs.declared.paint.Paint.{Paint}
use Rattle.first_script.specs.declared.paint.Paint.TheVariants.{Open, Fill}
use Rattle.first_script.specs.Painting.{rectangle}
use Rattle.client_connection.specs.declared.geometry.Geometry.{Geometry}
use Rattle.client_connection.specs.declared.source.Source.{Source}
use Rattle.client_connection.specs.declared.packet.Packet.{Packet}
use Rattle.client_connection.specs.declared.packet.Announcement.{Announcement}
use Rattle.client_connection.specs.PointSets.{whole_set, with_rectangle}
use Rattle.client_connection.specs.Wire.{server_hello, geometry_of, new_window, draw}

-- whether its hello was accepted, how many maps were read, the bytes read that are no whole packet yet, its sources in the desktop's order,
-- the packets that wait in order, how many bytes of the first were taken;
-- and what a paint line prepared: how many sources and packets more fit without memory, and the next announcement
pub record ClientSeen : Type 0 where
  pub greeted : Bool
  pub maps : ℕ
  pub unread : List ℕ
  pub sources : List Source
  pub packets : List Packet
  pub taken : ℕ
  pub room : ℕ
  pub next : Option Announcement

-- with what was prepared aside
abbrev pub plain : ClientSeen → ClientSeen
plain c = record c { room = 0; next = None }

-- a connection that was just accepted
abbrev pub fresh_client : ClientSeen
fresh_client = record { greeted = false; maps = 0; unread = []; sources = []; packets = []; taken = 0; room = 0; next = None }

-- a packet that is no draw
abbrev pub structure_packet : List ℕ → Packet
structure_packet bytes = record { bytes = bytes; draw = None }

-- a source as it starts: not mapped, the whole window pending
abbrev pub fresh_source : Geometry → Source
fresh_source g = record { wid = g.wid; mapped = false; pending = whole_set g.w g.h true; next_sequence = 1 }

-- what a new window brings to a client
abbrev pub announcement : Geometry → Announcement
announcement g = record { source = fresh_source g; packet = structure_packet (new_window g) }

-- a window was announced to a client whose hello was accepted
abbrev pub announced : Geometry → ClientSeen → ClientSeen
announced g c = if c.greeted then record c { sources = c.sources ++ fresh_source g ∷ []; packets = c.packets ++ structure_packet (new_window g) ∷ [] } else c

-- room is there for the window, and its announcement is ready
pub record IsReady (g : Geometry) (c : ClientSeen) : Type 0 where
  pub room : c.greeted ≡ true → 1 ≤ c.room
  pub next : c.greeted ≡ true → c.next ≡ Some (announcement g)

-- a rectangle of a window was painted
abbrev pub damaged_source : ℕ → Rectangle → Source → Source
damaged_source wid r s = if s.wid == wid then record s { pending = with_rectangle r s.pending } else s

abbrev pub damaged : ℕ → Rectangle → ClientSeen → ClientSeen
damaged wid r c = record c { sources = map (damaged_source wid r) c.sources }

-- the client mapped the window
abbrev pub mapped_source : ℕ → Source → Source
mapped_source wid s = if s.wid == wid then record s { mapped = true } else s

-- a client whose hello was accepted: the server's hello and each window from bottom to top wait, and each
-- window has its source
abbrev pub attached : List Window → ClientSeen → ClientSeen
attached desk c = record c {
  greeted = true;
  sources = map (λ w. fresh_source (geometry_of w)) desk;
  packets = structure_packet server_hello ∷ map (λ w. structure_packet (new_window (geometry_of w))) desk;
  taken = 0;
}

-- how many bytes the first packet has
abbrev pub front_size : List Packet → ℕ
front_size [] = 0
front_size (p ∷ packets) = length p.bytes

-- what of the first packet is left to write
abbrev pub front_rest : List Packet → ℕ → List ℕ
front_rest [] taken = []
front_rest (p ∷ packets) taken = drop taken p.bytes

-- so many more bytes of the first packet were taken
abbrev pub taken_more : ℕ → ClientSeen → ClientSeen
taken_more n c = if nat_lt (c.taken + n) (front_size c.packets) then record c { taken = c.taken + n } else record c { packets = drop 1 c.packets; taken = 0 }

-- less than all of the first packet was taken, and nothing where none waits
abbrev pub IsTaken : List Packet → ℕ → Type 0
IsTaken [] taken = taken ≡ 0
IsTaken (p ∷ packets) taken = taken < length p.bytes

-- what is kept of every connection that is open: no packet is empty, and before its hello was accepted it has
-- no source and no packet
pub record IsClient (greeted : Bool) (maps : ℕ) (sources : List Source) (packets : List Packet) (taken : ℕ) : Type 0 where
  pub part : IsTaken packets taken
  pub filled : All (λ p. 0 < length p.bytes) packets
  pub counted : maps ≤ 1000
  pub unattached : greeted ≡ false → sources ≡ []
  pub unspoken : greeted ≡ false → packets ≡ []

-- how many bytes wait to be written
abbrev pub size_of : List Packet → ℕ
size_of [] = 0
size_of (p ∷ packets) = length p.bytes + size_of packets

abbrev pub waiting : ClientSeen → ℕ
waiting c = size_of c.packets - c.taken

-- the exact draw of a whole window, which repairs what was pending
abbrev pub window_draw : Window → Source → Packet
window_draw window s = record {
  bytes = draw window s.next_sequence;
  draw = Some (record { wid = window.wid; sequence = s.next_sequence; rect = whole window.w window.h; coding = Exact; relief = s.pending });
}

-- the source at this place was captured whole
abbrev pub captured : Window → ℕ → Source → ClientSeen → ClientSeen
captured window place s c = record c {
  sources = slice_set c.sources place (record s { pending = whole_set window.w window.h false; next_sequence = s.next_sequence + 1 });
  packets = c.packets ++ window_draw window s ∷ [];
}

-- what a paint line does for a client
abbrev pub painted_client : Paint → ClientSeen → ClientSeen
painted_client (Open wid x y w h) = announced (record { wid = wid; x = x; y = y; w = w; h = h })
painted_client (Fill wid x y w h colour) = damaged wid (rectangle x y w h)
