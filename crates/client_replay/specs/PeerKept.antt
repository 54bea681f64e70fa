-- What a peer and the provider of peers keep of their fields.
use Rattle.std.specs.Prelude.{ℕ, ◌≡◌, ◌≤◌, ◌<◌, ◌^◌, Bool, true, false, Some, List, [], length, slice_get}
use Rattle.packet_kinds.specs.Replies.{replies, said_bytes}
use Rattle.link_bay.specs.Connections.{fresh_connection}
use Rattle.client_replay.specs.Replaying.{Replaying, Replays}
use Rattle.client_replay.specs.Peers.{PeerRecord, client_limit, peer_connection}

-- a replay of these bytes, all of whose replies were taken
pub record IsReplayed (bytes : List ℕ) (r : Replaying) : Type 0 where
  pub replays : Replays bytes (said_bytes (replies client_limit bytes)) r
  pub waiting : r.waiting ≡ []
  pub limit : r.framing.limit ≡ client_limit
  pub spent : r.spent ≡ false

-- no more is handed out than was said, and the replay is of the bytes taken, unless it had no memory for them or nobody listens any more
pub record IsPeer (place : ℕ) (said sent : List ℕ) (left lost : Bool) (r : Replaying) : Type 0 where
  pub handed : place ≤ length said
  pub follows : left ≡ false → lost ≡ false → IsReplayed sent r

-- those that were not accepted yet have taken and given nothing
abbrev pub AreUntouched : List PeerRecord → ℕ → Type 0
AreUntouched peers accepted = (k : ℕ) (p : PeerRecord) → accepted ≤ k → slice_get peers k ≡ Some p → peer_connection p ≡ fresh_connection true

pub record ArePeers (peers : List PeerRecord) (accepted : ℕ) : Type 0 where
  pub within : accepted ≤ length peers
  pub few : length peers < 2 ^ 32
  pub untouched : AreUntouched peers accepted
