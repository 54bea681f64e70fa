-- A peer in memory, after a read, a write or an order.
use Rattle.std.proofs.Common.{◌≡◌, ◌≢◌, ℕ, ◌+◌, ◌-◌, ◌<◌, ◌≤◌, Bool, true, false, List, [], ◌∷◌, ◌++◌, length, take, drop, replicate, refl, sym, ap, subst, ◌∙◌, arith, cond, min}
use Rattle.std.specs.Prelude.{Option, Some, None, not, ◌||◌, ◌&&◌, slice_get, slice_set}
use Rattle.std.proofs.lemmas.Bool.Decides.{nat_tests}
use Rattle.std.proofs.lemmas.List.{length-append, length-take-le, take-append-le, append-nil}
use Rattle.std.proofs.Math.Seq.{take-add, drop-append_seam}
use Rattle.xp_base.specs.Counts.{RoseOnlyIf}
use Rattle.packet_kinds.specs.Replies.{replies, said_bytes}
use Rattle.packet_kinds.proofs.Replying.{no_replies}
use Rattle.link_bay.specs.declared.counters.Counters.{Counters}
use Rattle.link_bay.specs.declared.writes.Write.{Write}
use Rattle.link_bay.specs.declared.order.Kind.{Kind}
use Rattle.link_bay.specs.declared.order.Order.{Order}
use Rattle.link_bay.specs.declared.order.Order.TheVariants as O
use Rattle.link_bay.specs.declared.bay.Gave.{Gave}
use Rattle.link_bay.specs.declared.bay.Gave.TheVariants as G
use Rattle.link_bay.specs.declared.bay.Wrote.{Wrote}
use Rattle.link_bay.specs.declared.bay.Wrote.TheVariants as W
use Rattle.link_bay.specs.Connections.{fresh_connection}
use Rattle.link_bay.specs.Answers.{ReadGives, WriteGives, is_dry, is_empty}
use Rattle.link_bay.specs.Counted.{after_write}
use Rattle.link_bay.specs.Writes.{heard_of}
use Rattle.link_bay.proofs.Peers.{heard_of-push}
use Rattle.client_replay.specs.Replaying.{Replaying, Replays}
use Rattle.client_replay.specs.Peers.{client_limit, PeerRecord, fresh_peer, peer_connection, connection_of, left_on, is_scripted, is_stalling, new_replies, answered, ordered_words, leaves, obeyed, obeyed_at, peers_after}
use Rattle.client_replay.specs.PeerSteps.{ReadOfPeer, taken_of, after_taking, WriteOfPeer}
use Rattle.client_replay.specs.PeerKept.{IsReplayed, IsPeer, AreUntouched}
use Rattle.client_replay.proofs.ReplayLemmas.{nothing_replays}

-- a replay that has heard more, and whose replies were taken
pub heard_on : (before piece said : List ℕ) (new : Replaying) → new.waiting ≡ [] → new.framing.limit ≡ client_limit → new.spent ≡ false
    → Replays (before ++ piece) (said_bytes (replies client_limit before) ++ said) new → IsReplayed (before ++ piece) new × (said ≡ new_replies before piece)
heard_on before piece said new waiting limit spent replays =
    let taken : List ℕ = said_bytes (replies client_limit before) in
    let all : said_bytes (replies client_limit (before ++ piece)) ≡ taken ++ said =
    ap (λ n. said_bytes (replies n (before ++ piece))) (sym limit) ∙ (replays.whole spent).replies ∙ ap (λ xs. (taken ++ said) ++ xs) waiting ∙ append-nil (taken ++ said) in (
      record { replays = subst (λ xs. Replays (before ++ piece) xs new) (sym all) replays; waiting = waiting; limit = limit; spent = spent },
      sym (ap (drop (length taken)) all ∙ drop-append_seam taken said),
    )

-- no bytes more, no replies more
pub no_more_replies : (sent : List ℕ) → new_replies sent [] ≡ []
no_more_replies sent =
    let taken : List ℕ = said_bytes (replies client_limit sent) in
    ap (λ xs. drop (length taken) (said_bytes (replies client_limit xs))) (append-nil sent) ∙ ap (drop (length taken)) (sym (append-nil taken)) ∙ drop-append_seam taken []

-- what was handed out stays handed out when more is said
module _ (place : ℕ) (said : List ℕ) (within : place ≤ length said) where
  pub given_counts : length (take place said) ≡ place
  given_counts = length-take-le place said within

  pub left_is : drop (length (take place said)) said ≡ drop place said
  left_is = ap (λ n. drop n said) given_counts

-- a read, by what is kept
pub peer_read : (p : PeerRecord) (place max n : ℕ) (into into' : List ℕ) → p.given ≡ take place p.said → place ≤ length p.said
    → n ≡ min (length (drop place p.said)) max → 1 ≤ n → into' ≡ into ++ take n (drop place p.said)
    → ReadOfPeer p (record p { given = take (place + n) p.said }) into into' max (G.Bytes n)
peer_read p place max n into into' given within least some is_into =
    let left : left_on p ≡ drop place p.said = ap (λ g. drop (length g) p.said) given ∙ left_is place p.said within in (
      least ∙ ap (λ xs. min (length xs) max) (sym left),
      some,
      is_into ∙ ap (λ xs. into ++ take n xs) (sym left),
      ap (λ xs. record p { given = xs }) (take-add place n p.said ∙ ap (λ xs. xs ++ take n (drop place p.said)) (sym given) ∙ ap (λ xs. p.given ++ take n xs) (sym left)),
    )

pub nothing_left : (p : PeerRecord) (place : ℕ) → p.given ≡ take place p.said → place ≤ length p.said → drop place p.said ≡ [] → left_on p ≡ []
nothing_left p place given within none = ap (λ g. drop (length g) p.said) given ∙ left_is place p.said within ∙ none

-- a write that takes nothing
pub stalled : (p : PeerRecord) (piece : List ℕ) (counts : Counters) → is_stalling p.kind p.counts.dry ≡ true → is_empty piece ≡ false → counts ≡ after_write piece 0 p.counts
    → WriteOfPeer p (record p { counts = counts }) piece (W.Took 0)
stalled p piece counts stalls some counted = (
  sym (ap (λ b. cond (b && not (is_empty piece)) 0 (min (length piece) 4294967295)) stalls ∙ ap (λ b. cond (not b) 0 (min (length piece) 4294967295)) some),
  same (answered p []) (silent_or (p.left || is_scripted p.kind)) counted,
) where
  silent_or : (b : Bool) → cond b [] (new_replies p.sent []) ≡ []
  silent_or true = refl
  silent_or false = no_more_replies p.sent

  same : (more : List ℕ) → more ≡ [] → counts ≡ after_write piece 0 p.counts
      → record p { counts = counts } ≡ record p { said = p.said ++ more; sent = p.sent ++ []; heard = p.heard ++ []; counts = after_write piece 0 p.counts }
  same more none is = rw (none, is, append-nil p.said, append-nil p.sent, append-nil p.heard) refl

pub stalled_gives : (p : PeerRecord) (piece : List ℕ) (counts : Counters) → counts ≡ after_write piece 0 p.counts → RoseOnlyIf (is_dry piece 0) p.counts.dry counts.dry
    → WriteGives (peer_connection p) (peer_connection (record p { counts = counts })) piece (W.Took 0)
stalled_gives p piece counts counted rose = (omega arith, rose, rw (counted, append-nil p.sent, append-nil p.heard) refl)

-- a write that takes bytes, by what is kept
module _ (p : PeerRecord) (place n : ℕ) (said' sent' piece : List ℕ) (taken taken' : List Write) (counts : Counters) (within : place ≤ length p.said) (given : p.given ≡ take place p.said)
    (heard : p.heard ≡ heard_of taken) (is_sent : sent' ≡ p.sent ++ take n piece) (is_said : said' ≡ p.said ++ answered p (take n piece))
    (is_taken : taken' ≡ taken ++ record { taken = n; given = place } ∷ []) (counted : counts ≡ after_write piece n p.counts) where
  abbrev now : PeerRecord
  now = record p { said = said'; sent = sent'; given = take place said'; heard = heard_of taken'; counts = counts }

  same_given : take place said' ≡ p.given
  same_given = ap (take place) is_said ∙ take-append-le place p.said (answered p (take n piece)) within ∙ sym given

  same_heard : heard_of taken' ≡ p.heard ++ replicate n (length p.given)
  same_heard =
      ap heard_of is_taken ∙ heard_of-push taken (record { taken = n; given = place }) ∙ ap (λ hs. hs ++ replicate n place) (sym heard)
      ∙ ap (λ k. p.heard ++ replicate n k) (sym (length-take-le place p.said within) ∙ ap length (sym given))

  pub written : n ≡ taken_of p piece → WriteOfPeer p now piece (W.Took n)
  written all = (all, rw (is_said, is_sent, sym is_said, same_given, same_heard, counted) refl)

  pub written_gives : n ≤ length piece → RoseOnlyIf (is_dry piece n) p.counts.dry counts.dry → WriteGives (peer_connection p) (peer_connection now) piece (W.Took n)
  written_gives most rose = (most, rose, rw (is_sent, same_given, same_heard, counted) refl)

-- how many bytes it takes, where it is not stalling
pub takes_all : (p : PeerRecord) (piece : List ℕ) → (is_stalling p.kind p.counts.dry && not (is_empty piece)) ≡ false → min (length piece) 4294967295 ≡ taken_of p piece
takes_all p piece none = sym (ap (λ b. cond b 0 (min (length piece) 4294967295)) none)

-- an order changes nothing that a connection knows
pub obeyed_connection : (p : PeerRecord) (order : Order) → peer_connection (obeyed p order) ≡ peer_connection p
obeyed_connection p order = either p.left where
  either : (b : Bool) → peer_connection (cond b p (record p { said = p.said ++ ordered_words p order; left = leaves order })) ≡ peer_connection p
  either true = refl
  either false = refl

-- a peer that has heard more
pub kept_peer : (place : ℕ) (said said' more sent sent' front : List ℕ) (left lost lost' : Bool) (r r' : Replaying) → IsPeer place said sent left lost r → said' ≡ said ++ more
    → sent' ≡ sent ++ front → (left ≡ false → lost' ≡ false → IsReplayed (sent ++ front) r') → IsPeer place said' sent' left lost' r'
kept_peer place said said' more sent sent' front left lost lost' r r' kept is_said is_sent heard = record {
  handed = let n = ap length is_said in let m = length-append said more in let within = kept.handed in omega arith;
  follows = λ a b. subst (λ xs. IsReplayed xs r') (sym is_sent) (heard a b);
}

-- nothing is held back of a piece that is empty
pub never_stalls : (b : Bool) (piece : List ℕ) → length piece ≡ 0 → (b && not (is_empty piece)) ≡ false
never_stalls true [] none = refl
never_stalls false [] none = refl
never_stalls b (byte ∷ piece) none = absurd (omega arith)
