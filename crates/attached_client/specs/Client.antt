-- A client whose hello was accepted.
use Rattle.std.specs.Prelude.{ℕ, ◌+◌, min, None, List, [], ◌∷◌, length, map, sum_by}
use Rattle.xp_base.specs.Counts.{greatest}
use Rattle.hello_caps.specs.declared.caps.Caps.{Caps}
use Rattle.hello_caps.specs.Replies.{server_hello_value}
use Rattle.packet_frames.specs.Written.{packet_bytes}
use Rattle.window_model.specs.Desktop.{Window}
use Rattle.window_model.specs.Geometry.{Geometry}
use Rattle.packet_kinds.specs.declared.to_client.ToClient.{ToClient}
use Rattle.packet_kinds.specs.declared.to_client.ToClient.TheVariants as T
use Rattle.packet_kinds.specs.Written.{message_bytes}
use Rattle.client_outbox.specs.Outgoing.{other_packet, with_packet, unwritten}
use Rattle.window_source.specs.Source.{SourceSeen, job_pixels}
use Rattle.window_source.specs.Waiting.{Queued}
use Rattle.client_delivery.specs.Attached.{AttachedSeen, started_source}
use Rattle.client_delivery.specs.Steps.{announces}

-- its connection, what its hello said of it, the sources of its windows, and the packets that wait
pub record ClientSeen : Type 0 where
  pub conn : ℕ
  pub caps : Caps
  pub seen : AttachedSeen

-- these, and for how many more windows there is room
pub record Attachment : Type 0 where
  pub client : ClientSeen
  pub room : ℕ

abbrev pub client_in : Attachment → ClientSeen
client_in a = a.client

-- the packet of a message that is no draw; it relieves nothing
abbrev pub plain_packet : ToClient → Queued
plain_packet m = other_packet (message_bytes m) []

-- a message that is no draw comes behind all that wait
abbrev pub puts_message : ToClient → AttachedSeen → AttachedSeen
puts_message m a = record a { out = with_packet a.out (plain_packet m) }

-- the server's hello to a client with these capabilities
abbrev pub hello_packet : Caps → Queued
hello_packet caps = other_packet (packet_bytes (server_hello_value caps.lossy) None) []

-- a client that was just attached at this moment: the server's hello and each window's announcement wait, from bottom to top
abbrev pub attached_at : List Window → ℕ → ℕ → Caps → ClientSeen
attached_at desk conn now caps = record {
  conn = conn;
  caps = caps;
  seen = record {
    sources = map (started_source conn now) desk;
    out = record { packets = hello_packet caps ∷ map (λ w. plain_packet (announces w)) desk; taken = 0 };
  };
}

-- the packet of a window's announcement, by its geometry
abbrev pub announced_at : Geometry → Queued
announced_at g = plain_packet (T.NewWindow g.wid g.x g.y g.w g.h)

-- the pixels of all jobs in hand
abbrev pub pixels_in_hand : List SourceSeen → ℕ
pixels_in_hand sources = sum_by (λ (s : SourceSeen). job_pixels s.jobs) sources

-- pixels of jobs in hand and bytes that wait to be written
abbrev pub weight : AttachedSeen → ℕ
weight a = min (pixels_in_hand a.sources + length (unwritten a.out)) greatest
