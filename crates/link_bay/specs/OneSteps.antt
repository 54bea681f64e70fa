-- What each call of the provider of one exact peer does, exactly.
use Rattle.std.specs.Prelude.{ℕ, ◌≡◌, ◌≢◌, ◌≤◌, ◌^◌, ◌-◌, Bool, true, false, ◌&&◌, not, if◌then◌else◌, min, Result, Ok, Err, List, [], ◌++◌, length, take, drop, replicate}
use Rattle.xp_base.specs.Counts.{count_sum}
use Rattle.xp_base.specs.declared.memory.NoMemory.{NoMemory}
use Rattle.link_bay.specs.declared.order.Order.{Order}
use Rattle.link_bay.specs.declared.order.Order.TheVariants as O
use Rattle.link_bay.specs.declared.order.Kind.TheVariants as K
use Rattle.link_bay.specs.declared.bay.Accept.{Accept}
use Rattle.link_bay.specs.declared.bay.Accept.TheVariants as A
use Rattle.link_bay.specs.declared.bay.Gave.{Gave}
use Rattle.link_bay.specs.declared.bay.Gave.TheVariants as G
use Rattle.link_bay.specs.declared.bay.Wrote.{Wrote}
use Rattle.link_bay.specs.declared.bay.Wrote.TheVariants as W
use Rattle.link_bay.specs.Peers.{OnePeer}
use Rattle.link_bay.specs.ExactPeer.{says}

-- an order for an exact peer without a uuid
abbrev pub is_exact_join : Order → Bool
is_exact_join (O.Join K.Exact []) = true
is_exact_join order = false

-- an order adds the peer where there is none
abbrev pub adds : OnePeer → Order → Bool
adds p order = is_exact_join order && not p.joined

abbrev pub OrderOfOne : OnePeer → OnePeer → Order → Result (Unit {0}) NoMemory → Type 0
OrderOfOne old new order (Ok done) = new ≡ (if adds old order then record old { joined = true } else old)
OrderOfOne old new order (Err none) = (adds old order ≡ true) × (new ≡ old)

-- the peer is there and was not accepted yet
abbrev pub is_waiting : OnePeer → Bool
is_waiting p = p.joined && not p.accepted

abbrev pub AcceptOfOne : OnePeer → OnePeer → Accept → Type 0
AcceptOfOne old new (A.Conn c) = (is_waiting old ≡ true) × (c.0 ≡ 0) × (new ≡ record old { accepted = true })
AcceptOfOne old new A.Nobody = (is_waiting old ≡ false) × (new ≡ record old { lulls = count_sum old.lulls 1 })
AcceptOfOne old new A.Failed = ⊥
AcceptOfOne old new A.NoMemory = ⊥

-- all that the peer has said
abbrev pub said_by : OnePeer → List ℕ
said_by p = says p.joined p.sent

-- and what of it was not handed out
abbrev pub left_of : OnePeer → List ℕ
left_of p = drop (length p.given) (said_by p)

-- a read of at most so many bytes gives the first of those that are left
abbrev pub ReadOfOne : OnePeer → OnePeer → List ℕ → List ℕ → ℕ → Gave → Type 0
ReadOfOne old new into into' max (G.Bytes n) =
    (n ≡ min (length (left_of old)) max) × (1 ≤ n) × (into' ≡ into ++ take n (left_of old))
    × (new ≡ record old { given = old.given ++ take n (left_of old) })
ReadOfOne old new into into' max G.Again =
    (left_of old ≡ []) × (into' ≡ into) × (new ≡ record old { waits = count_sum old.waits 1; unheard = 0 })
ReadOfOne old new into into' max G.End = ⊥
ReadOfOne old new into into' max G.Failed = ⊥
ReadOfOne old new into into' max G.NoMemory = (left_of old ≢ []) × (into' ≡ into) × (new ≡ old)

-- a write takes all of a piece of fewer than 2 ^ 32 bytes, and of a longer one the first 2 ^ 32 - 1
abbrev pub WriteOfOne : OnePeer → OnePeer → List ℕ → Wrote → Type 0
WriteOfOne old new piece (W.Took n) =
    (n ≡ min (length piece) (2 ^ 32 - 1))
    × (new ≡ record old { sent = old.sent ++ take n piece; heard = old.heard ++ replicate n (length old.given); unheard = count_sum old.unheard n })
WriteOfOne old new piece W.Failed = ⊥
WriteOfOne old new piece W.NoMemory = new ≡ old
