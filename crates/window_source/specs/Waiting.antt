-- A packet that waits, with the message that its bytes are, and, where that is a draw, the pixels of which it is the coding.
use Rattle.std.specs.Prelude.{ℕ, pos, ◌≡◌, ◌==◌, true, if◌then◌else◌, Option, Some, None, List, [], ◌∷◌, map, length}
use Rattle.std.specs.List.{flat_map}
use Rattle.xp_base.specs.Points.{Rectangle, area, is_within}
use Rattle.rgb_encoders.specs.Colour.{expansion, lossy_number}
use Rattle.rgb_encoders.specs.Decoded.{decoded}
use Rattle.rect_regions.specs.PointSets.{has, HasNone}
use Rattle.delivery_model.specs.Grids.{points}
use Rattle.delivery_model.specs.Window.{Packet, NewWindow, WindowResized, Draws}
use Rattle.delivery_model.specs.Client.{shown}
use Rattle.packet_kinds.specs.declared.to_client.ToClient.{ToClient}
use Rattle.packet_kinds.specs.declared.to_client.ToClient.TheVariants as T
use Rattle.packet_kinds.specs.Effects.{holds_pixels}
use Rattle.packet_kinds.specs.Written.{IsMessage}
use Rattle.client_outbox.specs.declared.draw.Draw.{Draw}
use Rattle.client_outbox.specs.Outgoing.{WaitingPacket}

-- how many bytes a packet or a chunk has at most that a client reads
abbrev pub client_limit : ℕ
client_limit = 67108864

-- a lossy draw shows the colour of the lossy number
abbrev pub lossy_shows : ℕ → ℕ
lossy_shows n = expansion (lossy_number n)

-- a packet whose relief is a region, met as its row-band list
abbrev pub Queued : Type 0
Queued = WaitingPacket (List Rectangle)

pub record Waiting : Type 0 where
  pub packet : Queued
  pub message : ToClient
  -- what a draw captured; none for other messages
  pub pixels : List ℕ

-- the packet says which draw it is, and in which window, where its message is a draw: its data is the coding of the pixels
abbrev pub IsDraw : Option ℕ → Option Draw → List ℕ → ToClient → Type 0
IsDraw (Some k) (Some d) pixels (T.Draw wid x y w h coding bytes sequence stride) =
    (k ≡ wid) × (d.rect ≡ record { x = x; y = y; w = w; h = h }) × (d.coding ≡ coding) × (sequence ≡ pos d.sequence)
    × (length pixels ≡ area d.rect) × (holds_pixels coding w h stride bytes ≡ true) × (decoded coding w h stride bytes ≡ map (shown lossy_shows coding) pixels)
IsDraw (Some k) (Some d) pixels m = ⊥
IsDraw (Some k) None pixels m = ⊥
IsDraw None (Some d) pixels m = ⊥
IsDraw None None pixels (T.Draw wid x y w h coding bytes sequence stride) = ⊥
IsDraw None None pixels m = Unit {0}

-- the packet's bytes are the message, and what else is kept of it is so
pub record Carries (w : Waiting) : Type 0 where
  pub message : IsMessage client_limit w.packet.bytes w.message
  pub draw : IsDraw w.packet.wid w.packet.draw w.pixels w.message
  -- what is no draw relieves nothing
  pub plain : w.packet.draw ≡ None → HasNone (has w.packet.relief)

-- what a draw is to the model, in a window of this size
abbrev pub draws_as : ℕ → ℕ → Option Draw → Waiting → List Packet
draws_as wide high None w = []
draws_as wide high (Some d) w = Draws (record {
  sequence = d.sequence;
  capture = record { rect = d.rect; coding = d.coding; pixels = w.pixels };
  relief = points wide high (has w.packet.relief);
}) ∷ []

-- what a message is to the model's window with number k: nothing where it is on another window, or changes no size and no pixel
abbrev pub says_to : ℕ → ℕ → ℕ → Waiting → ToClient → List Packet
says_to wide high k w (T.NewWindow wid x y wide' high') = if k == wid then NewWindow wide' high' ∷ [] else []
says_to wide high k w (T.WindowResized wid wide' high') = if k == wid then WindowResized wide' high' ∷ [] else []
says_to wide high k w (T.Draw wid x y w' h' coding bytes sequence stride) = if k == wid then draws_as wide high w.packet.draw w else []
says_to wide high k w m = []

-- the packets on the window with number k, of this size, among those that wait
abbrev pub waits_on : ℕ → ℕ → ℕ → List Waiting → List Packet
waits_on wide high k waiting = flat_map (λ (w : Waiting). says_to wide high k w w.message) waiting

-- the reliefs of the window's waiting draws lie in a window of this size
abbrev pub ReliefLies : ℕ → ℕ → ℕ → Waiting → Type 0
ReliefLies wide high k w = w.packet.wid ≡ Some k → (x y : ℕ) → has w.packet.relief x y ≡ true → is_within wide high x y ≡ true
