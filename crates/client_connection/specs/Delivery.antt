-- A window of a client, as the model of delivering one window sees it: what the client's bytes show of it, the packets on
-- it that wait, and its source.
use Rattle.std.specs.Prelude.{ℕ, ◌==◌, false, if◌then◌else◌, Option, Some, None, List, [], ◌∷◌, ◌++◌, find}
use Rattle.std.specs.Option.{option_map}
use Rattle.window_model.specs.Desktop.{Window}
use Rattle.rgb_encoders.specs.Colour.{expansion, lossy_number}
use Rattle.rgb_encoders.specs.Decoded.{decoded}
use Rattle.delivery_model.specs.Grids.{Points, points, Grid}
use Rattle.delivery_model.specs.Window.{Packet as Waiting, NewWindow, WindowResized, Draws, Window as Delivery}
use Rattle.packet_kinds.specs.declared.to_client.ToClient.{ToClient}
use Rattle.packet_kinds.specs.declared.to_client.ToClient.TheVariants as T
use Rattle.client_connection.specs.PointSets.{PointSet}
use Rattle.client_connection.specs.declared.packet.Packet.{Packet}
use Rattle.client_connection.specs.declared.packet.Draw.{Draw}
use Rattle.client_connection.specs.declared.source.Source.{Source}

-- a lossy draw shows the colour of the lossy number
abbrev pub lossy_shows : ℕ → ℕ
lossy_shows n = expansion (lossy_number n)

abbrev pub grid_of : Window → Grid
grid_of window = record { wide = window.w; high = window.h; numbers = window.pixels }

abbrev pub points_of : PointSet → Points
points_of p = record { wide = p.w; high = p.h; marks = p.marks }

-- what a packet that waits is to the window with number k: nothing where it is on another window
abbrev pub waits_as : ℕ → Option Draw → ToClient → List Waiting
waits_as k draw (T.Hello caps) = []
waits_as k draw (T.NewWindow wid x y w h) = if k == wid then NewWindow w h ∷ [] else []
waits_as k draw (T.LostWindow wid) = []
waits_as k draw (T.WindowResized wid w h) = if k == wid then WindowResized w h ∷ [] else []
waits_as k draw (T.WindowMoveResize wid x y w h) = []
waits_as k draw (T.RaiseWindow wid) = []
waits_as k None (T.Draw wid x y w h coding bytes sequence stride) = []
waits_as k (Some d) (T.Draw wid x y w h coding bytes sequence stride) = if k == wid then Draws (record {
  sequence = d.sequence;
  capture = record { rect = record { x = x; y = y; w = w; h = h }; coding = coding; pixels = decoded coding w h stride bytes };
  relief = points_of d.relief;
}) ∷ [] else []
waits_as k draw (T.PingEcho t) = []
waits_as k draw (T.Disconnect reason) = []
waits_as k draw T.Other = []

-- the packets on that window that wait, each with the message that its bytes are
abbrev pub waiting_on : ℕ → List Packet → List ToClient → List Waiting
waiting_on k [] messages = []
waiting_on k (p ∷ packets) [] = []
waiting_on k (p ∷ packets) (m ∷ messages) = waits_as k p.draw m ++ waiting_on k packets messages

-- the source of the window with this number
abbrev pub find_source : List Source → ℕ → Option Source
find_source sources k = find (λ s. s.wid == k) sources

-- a window of the desktop, what the client shows of it, the packets on it that wait, and its source. No job is in hand,
-- nothing is lossy, and time is not told yet.
abbrev pub delivery : Window → Option Window → List Waiting → Source → Delivery
delivery window client waiting s = record {
  desk = grid_of window;
  client = option_map grid_of client;
  packets = waiting;
  jobs = [];
  pending = points_of s.pending;
  pending_since = 0;
  lossy = points window.w window.h (λ x y. false);
  lossy_since = 0;
  unacknowledged = [];
  next_sequence = s.next_sequence;
  mapped = s.mapped;
  delay = 20;
}
