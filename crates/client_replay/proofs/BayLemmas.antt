-- The provider of peers, after each call.
use Rattle.std.proofs.Common.{◌≡◌, ◌≢◌, inl, inr, ℕ, ◌+◌, ◌-◌, ◌<◌, ◌≤◌, true, List, [], ◌∷◌, ◌++◌, zero, suc, length, set, refl, sym, ap, subst, ◌∙◌, arith}
use Rattle.std.specs.Prelude.{Option, Some, None, slice_get, slice_set}
use Rattle.std.proofs.lemmas.Bool.{cases_eq}
use Rattle.std.proofs.lemmas.List.{length-append, length-set}
use Rattle.link_bay.specs.declared.bay.Gave.{Gave}
use Rattle.link_bay.specs.declared.bay.Wrote.{Wrote}
use Rattle.link_bay.specs.declared.order.Order.{Order}
use Rattle.link_bay.specs.declared.order.Order.TheVariants as O
use Rattle.link_bay.specs.Answers.{ReadGives, WriteGives}
use Rattle.link_bay.specs.Connections.{ConnectionRecord, fresh_connection}
use Rattle.link_bay.proofs.Places.{slice_get-set_same, slice_get-set_other, slice_get-append_last, slice_get-append_other}
use Rattle.client_replay.specs.Peers.{PeerRecord, fresh_peer, peer_connection, connection_of, obeyed, obeyed_at, peers_after}
use Rattle.client_replay.specs.PeerKept.{AreUntouched, ArePeers}
use Rattle.client_replay.proofs.PeerLemmas.{obeyed_connection}

nobody_there : (peers : List PeerRecord) → slice_get peers (length peers) ≡ None
nobody_there [] = refl
nobody_there (p ∷ peers) = nobody_there peers

there_within : (peers : List PeerRecord) (c : ℕ) (p : PeerRecord) → slice_get peers c ≡ Some p → c < length peers
there_within [] c p e = absurd (cc)
there_within (q ∷ peers) zero p e = omega arith
there_within (q ∷ peers) (suc c) p e = let more = there_within peers c p e in omega arith

-- one more peer, or one that obeyed
joined_stays : (peers : List PeerRecord) (p : PeerRecord) (d : ℕ) → peer_connection p ≡ fresh_connection true → connection_of (slice_get (peers ++ p ∷ []) d) ≡ connection_of (slice_get peers d)
joined_stays peers p d fresh = elim (cases_eq d (length peers)) [
  | inl here ↦ ap (λ n. connection_of (slice_get (peers ++ p ∷ []) n)) here ∙ ap connection_of (slice_get-append_last peers p) ∙ fresh
      ∙ sym (ap (λ n. connection_of (slice_get peers n)) here ∙ ap connection_of (nobody_there peers))
  | inr other ↦ ap connection_of (slice_get-append_other peers p d other)
]

set_stays : (peers : List PeerRecord) (c d : ℕ) (p new : PeerRecord) → slice_get peers c ≡ Some p → peer_connection new ≡ peer_connection p
    → connection_of (slice_get (slice_set peers c new) d) ≡ connection_of (slice_get peers d)
set_stays peers c d p new there same = elim (cases_eq d c) [
  | inl here ↦ ap (λ n. connection_of (slice_get (slice_set peers c new) n)) here ∙ ap connection_of (slice_get-set_same peers c new (there_within peers c p there)) ∙ same
      ∙ sym (ap (λ n. connection_of (slice_get peers n)) here ∙ ap connection_of there)
  | inr other ↦ ap connection_of (slice_get-set_other peers c new d other)
]

obeyed_stays : (peers : List PeerRecord) (c d : ℕ) (o : Option PeerRecord) (order : Order) → slice_get peers c ≡ o
    → connection_of (slice_get (obeyed_at peers c o order) d) ≡ connection_of (slice_get peers d)
obeyed_stays peers c d None order there = refl
obeyed_stays peers c d (Some p) order there = set_stays peers c d p (obeyed p order) there (obeyed_connection p order)

pub order_stays : (peers : List PeerRecord) (order : Order) (d : ℕ) → connection_of (slice_get (peers_after peers order) d) ≡ connection_of (slice_get peers d)
order_stays peers (O.Join kind name) d = joined_stays peers (fresh_peer kind name) d refl
order_stays peers (O.Map c wid) d = obeyed_stays peers c.0 d (slice_get peers c.0) (O.Map c wid) refl
order_stays peers (O.Unmap c wid) d = obeyed_stays peers c.0 d (slice_get peers c.0) (O.Unmap c wid) refl
order_stays peers (O.Refresh c wid) d = obeyed_stays peers c.0 d (slice_get peers c.0) (O.Refresh c wid) refl
order_stays peers (O.Leave c) d = obeyed_stays peers c.0 d (slice_get peers c.0) (O.Leave c) refl
order_stays peers (O.Say c words) d = obeyed_stays peers c.0 d (slice_get peers c.0) (O.Say c words) refl

obeyed_length : (peers : List PeerRecord) (c : ℕ) (o : Option PeerRecord) (order : Order) → length (obeyed_at peers c o order) ≡ length peers
obeyed_length peers c None order = refl
obeyed_length peers c (Some p) order = length-set peers c (obeyed p order)

length_after : (peers : List PeerRecord) (order : Order) → length peers ≤ length (peers_after peers order)
length_after peers (O.Join kind name) = let n = length-append peers (fresh_peer kind name ∷ []) in omega arith
length_after peers (O.Map c wid) = let n = obeyed_length peers c.0 (slice_get peers c.0) (O.Map c wid) in omega arith
length_after peers (O.Unmap c wid) = let n = obeyed_length peers c.0 (slice_get peers c.0) (O.Unmap c wid) in omega arith
length_after peers (O.Refresh c wid) = let n = obeyed_length peers c.0 (slice_get peers c.0) (O.Refresh c wid) in omega arith
length_after peers (O.Leave c) = let n = obeyed_length peers c.0 (slice_get peers c.0) (O.Leave c) in omega arith
length_after peers (O.Say c words) = let n = obeyed_length peers c.0 (slice_get peers c.0) (O.Say c words) in omega arith

-- one that was not accepted yet
fresh_by : (o : Option PeerRecord) → ((p : PeerRecord) → o ≡ Some p → peer_connection p ≡ fresh_connection true) → connection_of o ≡ fresh_connection true
fresh_by None fresh = refl
fresh_by (Some p) fresh = fresh p refl

pub fresh_at : (peers : List PeerRecord) (accepted k : ℕ) → AreUntouched peers accepted → accepted ≤ k → connection_of (slice_get peers k) ≡ fresh_connection true
fresh_at peers accepted k untouched later = fresh_by (slice_get peers k) (λ p there. untouched k p later there)

-- what no connection sees leaves the others untouched
untouched_after : (old new : List PeerRecord) (accepted : ℕ) → AreUntouched old accepted
    → ((k : ℕ) → accepted ≤ k → connection_of (slice_get new k) ≡ connection_of (slice_get old k)) → AreUntouched new accepted
untouched_after old new accepted untouched same = λ k p later there. ap connection_of (sym there) ∙ same k later ∙ fresh_at old accepted k untouched later

pub kept_after : (old new : List PeerRecord) (accepted : ℕ) (order : Order) → ArePeers old accepted → new ≡ peers_after old order → length new < 4294967296 → ArePeers new accepted
kept_after old new accepted order kept is few = record {
  within = let more = length_after old order in let n = ap length is in let before = kept.within in omega arith;
  few = few;
  untouched = untouched_after old new accepted kept.untouched (λ k later. ap (λ peers. connection_of (slice_get peers k)) is ∙ order_stays old order k);
}

-- one more is accepted
pub kept_accepted : (peers : List PeerRecord) (accepted : ℕ) → ArePeers peers accepted → accepted ≢ length peers → ArePeers peers (accepted + 1)
kept_accepted peers accepted kept more = record {
  within = let within = kept.within in omega arith;
  few = kept.few;
  untouched = λ k p later there. kept.untouched k p (omega arith) there;
}

-- the peer of a connection that was handed out has changed
pub kept_set : (peers : List PeerRecord) (accepted c : ℕ) (p : PeerRecord) → ArePeers peers accepted → c < accepted → ArePeers (set peers c p) accepted
kept_set peers accepted c p kept known = record {
  within = let n = length-set peers c p in let within = kept.within in omega arith;
  few = let n = length-set peers c p in let few = kept.few in omega arith;
  untouched = untouched_after peers (set peers c p) accepted kept.untouched (λ k later. ap connection_of (slice_get-set_other peers c p k (λ same. absurd (omega arith))));
}

-- one connection of the provider
pub peer_reads : (old new : Option PeerRecord) (p p' : PeerRecord) (into into' : List ℕ) (max : ℕ) (answer : Gave) → old ≡ Some p → new ≡ Some p'
    → ReadGives (peer_connection p) (peer_connection p') into into' max answer → ReadGives (connection_of old) (connection_of new) into into' max answer
peer_reads old new p p' into into' max answer was is gives = rw (was, is) gives

pub peer_writes : (old new : Option PeerRecord) (p p' : PeerRecord) (piece : List ℕ) (answer : Wrote) → old ≡ Some p → new ≡ Some p'
    → WriteGives (peer_connection p) (peer_connection p') piece answer → WriteGives (connection_of old) (connection_of new) piece answer
peer_writes old new p p' piece answer was is gives = rw (was, is) gives
