-- A write of bytes of the first packet, by what the connection's provider answered.
use Rattle.std.specs.Prelude.{ℕ, ◌≡◌, ◌≢◌, ◌+◌, ◌≤◌, List, [], ◌∷◌, length, take, drop, nat_lt, if◌then◌else◌}
use Rattle.link_bay.specs.Connections.{ConnectionRecord}
use Rattle.link_bay.specs.Answers.{WriteGives}
use Rattle.link_bay.specs.declared.bay.Wrote.TheVariants as W
use Rattle.client_outbox.specs.declared.out.Out.{Out}
use Rattle.client_outbox.specs.declared.out.Out.TheVariants as O
use Rattle.client_outbox.specs.Outgoing.{WaitingPacket, Outgoing, Queue}

-- what of the first packet was not taken yet
abbrev pub rest_of : {R : Type 0} → List (WaitingPacket R) → ℕ → List ℕ
rest_of [] taken = []
rest_of (p ∷ packets) taken = drop taken p.bytes

-- the piece that one write offers
abbrev pub piece_of : {R : Type 0} → ℕ → Outgoing R → List ℕ
piece_of max o = take max (rest_of o.packets o.taken)

-- so many bytes more of the first packet were taken; with its last byte it is gone
abbrev pub moved_on : {R : Type 0} → List (WaitingPacket R) → ℕ → ℕ → Outgoing R
moved_on [] taken n = record { packets = []; taken = taken }
moved_on (p ∷ packets) taken n =
    if nat_lt (taken + n) (length p.bytes) then record { packets = p ∷ packets; taken = taken + n } else record { packets = packets; taken = 0 }

abbrev pub advanced : {R : Type 0} → Outgoing R → ℕ → Outgoing R
advanced o n = moved_on o.packets o.taken n

-- a send: the connection and the packets, before and after. It makes one write, and none where nothing waits.
abbrev pub SendGives : {R : Type 0} → ConnectionRecord → ConnectionRecord → Outgoing R → Outgoing R → ℕ → Out → Type 0
SendGives line line' o o' max (O.Took n) =
    (1 ≤ n) × (o.packets ≢ []) × WriteGives line line' (piece_of max o) (W.Took n) × (o' ≡ advanced o n)
SendGives line line' o o' max O.Idle = (o.packets ≡ []) × (line' ≡ line) × (o' ≡ o)
SendGives line line' o o' max O.Again = (o.packets ≢ []) × WriteGives line line' (piece_of max o) (W.Took 0) × (o' ≡ o)
SendGives line line' o o' max O.Failed = (o.packets ≢ []) × WriteGives line line' (piece_of max o) W.Failed × (o' ≡ o)
SendGives line line' o o' max O.NoMemory = (o.packets ≢ []) × WriteGives line line' (piece_of max o) W.NoMemory × (o' ≡ o)

-- the same of an outbox and one of a provider's connections
abbrev pub SendsOn : {B R : Type 0} → (B → ℕ → ConnectionRecord) → B → B → ℕ → Queue R → Queue R → ℕ → Out → Type 0
SendsOn connection bay bay' c q q' max out = SendGives (connection bay c) (connection bay' c) q.waiting q'.waiting max out
