-- What each call of the provider of peers does, exactly.
use Rattle.std.specs.Prelude.{ℕ, ◌+◌, ◌≡◌, ◌≢◌, ◌≤◌, ◌<◌, ◌^◌, ◌-◌, Bool, true, false, ◌&&◌, not, min, Some, Result, Ok, Err, List, [], ◌∷◌, ◌++◌, length, take, replicate, slice_get, slice_set, if◌then◌else◌}
use Rattle.xp_base.specs.Counts.{count_sum}
use Rattle.xp_base.specs.declared.memory.NoMemory.{NoMemory}
use Rattle.link_bay.specs.declared.bay.Accept.{Accept}
use Rattle.link_bay.specs.declared.bay.Accept.TheVariants as A
use Rattle.link_bay.specs.declared.bay.Gave.{Gave}
use Rattle.link_bay.specs.declared.bay.Gave.TheVariants as G
use Rattle.link_bay.specs.declared.bay.Wrote.{Wrote}
use Rattle.link_bay.specs.declared.bay.Wrote.TheVariants as W
use Rattle.link_bay.specs.declared.order.Order.{Order}
use Rattle.link_bay.specs.Answers.{is_empty}
use Rattle.link_bay.specs.Counted.{after_write}
use Rattle.client_replay.specs.Peers.{PeerRecord, left_on, is_stalling, answered, PeerProvider, peers_after}

-- a read of at most so many bytes gives the first of those that are left
abbrev pub ReadOfPeer : PeerRecord → PeerRecord → List ℕ → List ℕ → ℕ → Gave → Type 0
ReadOfPeer old new into into' max (G.Bytes n) =
    (n ≡ min (length (left_on old)) max) × (1 ≤ n) × (into' ≡ into ++ take n (left_on old))
    × (new ≡ record old { given = old.given ++ take n (left_on old) })
ReadOfPeer old new into into' max G.Again =
    (left_on old ≡ []) × (old.left ≡ false) × (into' ≡ into)
    × (new ≡ record old { counts = record old.counts { waits = count_sum old.counts.waits 1; unheard = 0 } })
ReadOfPeer old new into into' max G.End =
    (left_on old ≡ []) × (old.left ≡ true) × (into' ≡ into) × (new ≡ record old { counts = record old.counts { ends = count_sum old.counts.ends 1 } })
ReadOfPeer old new into into' max G.Failed = ⊥
ReadOfPeer old new into into' max G.NoMemory = (left_on old ≢ []) × (into' ≡ into) × (new ≡ old)

-- how many bytes of a piece it takes: all of fewer than 2 ^ 32, unless it still takes nothing
abbrev pub taken_of : PeerRecord → List ℕ → ℕ
taken_of p piece = if is_stalling p.kind p.counts.dry && not (is_empty piece) then 0 else min (length piece) (2 ^ 32 - 1)

-- after it has taken so many bytes of a piece
abbrev pub after_taking : PeerRecord → List ℕ → ℕ → PeerRecord
after_taking p piece n = record p {
  said = p.said ++ answered p (take n piece);
  sent = p.sent ++ take n piece;
  heard = p.heard ++ replicate n (length p.given);
  counts = after_write piece n p.counts;
}

abbrev pub WriteOfPeer : PeerRecord → PeerRecord → List ℕ → Wrote → Type 0
WriteOfPeer old new piece (W.Took n) = (n ≡ taken_of old piece) × (new ≡ after_taking old piece n)
WriteOfPeer old new piece W.Failed = ⊥
WriteOfPeer old new piece W.NoMemory = new ≡ old

-- an accept hands out the next peer that has joined
abbrev pub AcceptOfPeers : PeerProvider → PeerProvider → Accept → Type 0
AcceptOfPeers old new (A.Conn c) = (c.0 ≡ old.accepted) × (old.accepted < length old.peers) × (new ≡ record old { accepted = old.accepted + 1 })
AcceptOfPeers old new A.Nobody = (old.accepted ≡ length old.peers) × (new ≡ record old { lulls = count_sum old.lulls 1 })
AcceptOfPeers old new A.Failed = ⊥
AcceptOfPeers old new A.NoMemory = ⊥

abbrev pub OrderOfPeers : PeerProvider → PeerProvider → Order → Result (Unit {0}) NoMemory → Type 0
OrderOfPeers old new order (Ok done) = new ≡ record old { peers = peers_after old.peers order; asked = old.asked ++ order ∷ [] }
OrderOfPeers old new order (Err none) = new ≡ old

-- a call on one connection: it is that of its peer, and nothing else changes
abbrev pub OnPeer : PeerProvider → PeerProvider → ℕ → (PeerRecord → PeerRecord → Type 0) → Type 0
OnPeer old new c Step =
    (was : PeerRecord) × (is : PeerRecord) × (slice_get old.peers c ≡ Some was) × Step was is × (new ≡ record old { peers = slice_set old.peers c is })
