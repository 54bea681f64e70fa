-- Clients in memory. What one has said is a function of the orders for it and of the bytes that it took, in their order.
use Rattle.std.specs.Prelude.{ℕ, ◌-◌, ◌+◌, pos, Bool, true, false, ◌||◌, nat_lt, Option, Some, None, List, [], ◌∷◌, ◌++◌, length, take, drop, slice_get, slice_set, if◌then◌else◌}
use Rattle.bencode_values.specs.declared.value.Value.TheVariants as V
use Rattle.window_model.specs.Desktop.{Window, find_window}
use Rattle.packet_kinds.specs.declared.from_client.FromClient.TheVariants as C
use Rattle.packet_kinds.specs.FromWritten.{client_bytes}
use Rattle.packet_kinds.specs.Items.{number}
use Rattle.packet_kinds.specs.Picture.{picture}
use Rattle.packet_kinds.specs.Replies.{replies, said_bytes}
use Rattle.link_bay.specs.Connections.{ConnectionRecord, fresh_connection}
use Rattle.link_bay.specs.Provider.{ProviderRecord}
use Rattle.link_bay.specs.Counted.{no_counts, with_counts}
use Rattle.link_bay.specs.declared.counters.Counters.{Counters}
use Rattle.link_bay.specs.declared.order.Kind.{Kind}
use Rattle.link_bay.specs.declared.order.Kind.TheVariants as K
use Rattle.link_bay.specs.declared.order.Order.{Order}
use Rattle.link_bay.specs.declared.order.Order.TheVariants as O
use Rattle.client_replay.specs.Hellos.{first_words}

-- a packet and a chunk to a client have at most so many bytes
abbrev pub client_limit : ℕ
client_limit = 67108864

-- its kind, all that it has said, whether it has left, the bytes that it took, the bytes of those said that were handed out, for
-- each byte taken how many had been handed out by then, and counts
pub record PeerRecord : Type 0 where
  pub kind : Kind
  pub said : List ℕ
  pub left : Bool
  pub sent : List ℕ
  pub given : List ℕ
  pub heard : List ℕ
  pub counts : Counters

-- as it joins
abbrev pub fresh_peer : Kind → List ℕ → PeerRecord
fresh_peer kind name = record { kind = kind; said = first_words kind name; left = false; sent = []; given = []; heard = []; counts = no_counts }

abbrev pub peer_connection : PeerRecord → ConnectionRecord
peer_connection p = with_counts (Some p.sent) (Some p.given) (Some p.heard) p.counts

abbrev pub connection_of : Option PeerRecord → ConnectionRecord
connection_of None = fresh_connection true
connection_of (Some p) = peer_connection p

-- the bytes said that are not handed out yet
abbrev pub left_on : PeerRecord → List ℕ
left_on p = drop (length p.given) p.said

-- a scripted peer answers nothing
abbrev pub is_scripted : Kind → Bool
is_scripted K.Exact = false
is_scripted K.Lossy = false
is_scripted (K.Dry n) = false
is_scripted K.Hex = true

-- a stalling peer takes nothing of its first so many pieces that are not empty
abbrev pub is_stalling : Kind → ℕ → Bool
is_stalling K.Exact dry = false
is_stalling K.Lossy dry = false
is_stalling (K.Dry n) dry = nat_lt dry n
is_stalling K.Hex dry = false

-- the replies that come with these bytes, behind those sent
abbrev pub new_replies : List ℕ → List ℕ → List ℕ
new_replies sent more = drop (length (said_bytes (replies client_limit sent))) (said_bytes (replies client_limit (sent ++ more)))

-- what it answers to these bytes
abbrev pub answered : PeerRecord → List ℕ → List ℕ
answered p more = if p.left || is_scripted p.kind then [] else new_replies p.sent more

-- the map of a window with the numbers of the picture, or with zeros where it is not there
abbrev pub map_of : Option Window → ℕ → List ℕ
map_of None wid = client_bytes (C.MapWindow (pos wid) (V.Int (pos 0) ∷ V.Int (pos 0) ∷ number 0 ∷ number 0 ∷ []))
map_of (Some window) wid = client_bytes (C.MapWindow (pos wid) (V.Int window.x ∷ V.Int window.y ∷ number window.w ∷ number window.h ∷ []))

-- what an order makes it say
abbrev pub ordered_words : PeerRecord → Order → List ℕ
ordered_words p (O.Join kind name) = []
ordered_words p (O.Map c wid) = map_of (find_window (picture client_limit p.sent).windows wid) wid
ordered_words p (O.Unmap c wid) = client_bytes (C.UnmapWindow (pos wid) [])
ordered_words p (O.Refresh c wid) = client_bytes (C.BufferRefresh (pos wid) [])
ordered_words p (O.Leave c) = []
ordered_words p (O.Say c words) = words

abbrev pub leaves : Order → Bool
leaves (O.Join kind name) = false
leaves (O.Map c wid) = false
leaves (O.Unmap c wid) = false
leaves (O.Refresh c wid) = false
leaves (O.Leave c) = true
leaves (O.Say c words) = false

-- after an order; one that has left does nothing any more
abbrev pub obeyed : PeerRecord → Order → PeerRecord
obeyed p order = if p.left then p else record p { said = p.said ++ ordered_words p order; left = leaves order }

-- the peers in the order in which they joined: the k-th is connection k; how many were accepted, the orders that were taken, and how
-- often an accept found nobody
pub record PeerProvider : Type 0 where
  pub peers : List PeerRecord
  pub accepted : ℕ
  pub asked : List Order
  pub lulls : ℕ

abbrev pub no_peers : PeerProvider
no_peers = record { peers = []; accepted = 0; asked = []; lulls = 0 }

abbrev pub peers_connection : PeerProvider → ℕ → ConnectionRecord
peers_connection b c = connection_of (slice_get b.peers c)

abbrev pub peers_provider : PeerProvider → ProviderRecord
peers_provider b = record { count = b.accepted; asked = Some b.asked; room = length b.peers - b.accepted; faults = 0; lulls = b.lulls }

abbrev pub obeyed_at : List PeerRecord → ℕ → Option PeerRecord → Order → List PeerRecord
obeyed_at peers c None order = peers
obeyed_at peers c (Some p) order = slice_set peers c (obeyed p order)

-- the peers after an order: one more, or one that obeys; an order on a peer that is not there does nothing
abbrev pub peers_after : List PeerRecord → Order → List PeerRecord
peers_after peers (O.Join kind name) = peers ++ fresh_peer kind name ∷ []
peers_after peers (O.Map c wid) = obeyed_at peers c.0 (slice_get peers c.0) (O.Map c wid)
peers_after peers (O.Unmap c wid) = obeyed_at peers c.0 (slice_get peers c.0) (O.Unmap c wid)
peers_after peers (O.Refresh c wid) = obeyed_at peers c.0 (slice_get peers c.0) (O.Refresh c wid)
peers_after peers (O.Leave c) = obeyed_at peers c.0 (slice_get peers c.0) (O.Leave c)
peers_after peers (O.Say c words) = obeyed_at peers c.0 (slice_get peers c.0) (O.Say c words)
