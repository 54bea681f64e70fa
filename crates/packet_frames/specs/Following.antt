-- A framer: what it has been fed and has not given yet, and what its answers say of all bytes that it was ever fed.
use Rattle.std.specs.Prelude.{◌≡◌, ℕ, ◌+◌, ◌*◌, ◌≤◌, ◌<◌, Bool, true, false, Some, None, List, [], ◌∷◌, ◌++◌, length, take, drop, if◌then◌else◌}
use Rattle.packet_frames.specs.declared.next.Next.{Next}
use Rattle.packet_frames.specs.declared.next.Next.TheVariants as N
use Rattle.packet_frames.specs.Stream.{Packet, Stream, from_place, read_on, packets_of}

-- The limit, the place of the first byte that belongs to no packet given, the bytes from there on, and whether it
-- answered a fault.
pub record Framing : Type 0 where
  pub limit : ℕ
  pub start : ℕ
  pub rest : List ℕ
  pub stopped : Bool

-- the stream of what was not given yet
abbrev pub left_of : Framing → Stream
left_of f = read_on f.limit (from_place f.start) f.rest

-- a stream behind these packets
abbrev pub behind : List Packet → Stream → Stream
behind given s = record s { packets = given ++ s.packets }

-- It was fed these bytes, in whatever pieces, and gave these packets: what it has not given yet is all that is left
-- of the packets of these bytes.
pub record Follows (bytes : List ℕ) (given : List Packet) (f : Framing) : Type 0 where
  pub all : packets_of f.limit bytes ≡ behind given (left_of f)

-- a piece more; after a fault was answered nothing is taken
abbrev pub fed : Framing → List ℕ → Framing
fed f piece = if f.stopped then f else record f { rest = f.rest ++ piece }

-- An answer. A packet: the first of its bytes are this packet and no more. Need: its bytes hold no packet and no fault.
-- A fault: no packet stands before it.
abbrev pub Gives : Framing → Next → Framing → Type 0
Gives old (N.Packet place value) new =
    (size : ℕ) × (size ≤ length old.rest)
    × (read_on old.limit (from_place old.start) (take size old.rest)
    ≡ record { packets = record { place = place; value = value } ∷ []; start = new.start; rest = []; fault = None })
    × (new ≡ record old { start = new.start; rest = drop size old.rest })
Gives old N.Need new = (left_of old ≡ record { packets = []; start = old.start; rest = old.rest; fault = None }) × (new ≡ old)
Gives old (N.Bad place kind) new =
    ((left_of old).packets ≡ []) × ((left_of old).fault ≡ Some (record { place = place; kind = kind })) × (new ≡ record old { stopped = true })
Gives old N.NoMemory new = new ≡ old

-- The same of all bytes that it was fed, where it gave these packets before: a packet is the next of them; at Need they
-- are all, and the rest is what is left; a fault is that of the bytes, and they have no packet more.
abbrev pub Tells : List ℕ → List Packet → Next → Framing → Type 0
Tells bytes given (N.Packet place value) new = Follows bytes (given ++ record { place = place; value = value } ∷ []) new
Tells bytes given N.Need new =
    (packets_of new.limit bytes ≡ record { packets = given; start = new.start; rest = new.rest; fault = None }) × Follows bytes given new
Tells bytes given (N.Bad place kind) new =
    ((packets_of new.limit bytes).packets ≡ given) × ((packets_of new.limit bytes).fault ≡ Some (record { place = place; kind = kind }))
    × Follows bytes given new
Tells bytes given N.NoMemory new = Follows bytes given new

-- where more is needed, what is unread is short of four chunks and a main packet, with their headers
abbrev pub IsShortAt : Next → Framing → Type 0
IsShortAt (N.Packet place value) new = Unit {0}
IsShortAt N.Need new = length new.rest < 5 * (new.limit + 8)
IsShortAt (N.Bad place kind) new = Unit {0}
IsShortAt N.NoMemory new = Unit {0}

-- after a fault was answered there is no other answer
abbrev pub KeepsFault : Framing → Next → Type 0
KeepsFault old (N.Packet place value) = old.stopped ≡ false
KeepsFault old N.Need = old.stopped ≡ false
KeepsFault old (N.Bad place kind) = Unit {0}
KeepsFault old N.NoMemory = old.stopped ≡ false
