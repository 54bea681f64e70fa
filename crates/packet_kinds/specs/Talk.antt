-- What a client has said, read from the bytes that it gave. Its first packet is kept as it is: it is read as a hello and by
-- nothing else. The later ones are messages, up to the first fault.
use Rattle.std.specs.Prelude.{ℕ, ◌≡◌, ◌≢◌, ◌↔◌, Option, Some, None, Result, Ok, Err, List, [], ◌∷◌, ◌++◌}
use Rattle.packet_frames.specs.Stream.{Packet, Fault, packets_of}
use Rattle.packet_frames.specs.Following.{Framing, Follows}
use Rattle.packet_frames.specs.Written.{IsClean}
use Rattle.packet_kinds.specs.declared.fault.TalkFault.{TalkFault}
use Rattle.packet_kinds.specs.declared.fault.TalkFault.TheVariants as F
use Rattle.packet_kinds.specs.declared.from_client.FromClient.{FromClient}
use Rattle.packet_kinds.specs.FromShapes.{from_client}
use Rattle.packet_kinds.specs.FromWritten.{IsClientMessage}

-- a message, with the place of its packet's main header
pub record Said : Type 0 where
  pub place : ℕ
  pub message : FromClient

-- a fault, with the place of its byte or of its packet's main header
pub record TalkStop : Type 0 where
  pub place : ℕ
  pub kind : TalkFault

-- the first packet, the messages behind it, and the fault where one stands
pub record Talk : Type 0 where
  pub first : Option Packet
  pub said : List Said
  pub fault : Option TalkStop

-- messages, and the fault behind them
pub record Heard : Type 0 where
  pub said : List Said
  pub fault : Option TalkStop

-- where all packets were heard the fault is that of the bytes
abbrev pub stop_of : Option Fault → Option TalkStop
stop_of None = None
stop_of (Some f) = Some (record { place = f.place; kind = F.Frame f.kind })

abbrev pub heard_or_shape : ℕ → Result FromClient ℕ → Heard → Heard
heard_or_shape place (Err i) later = record { said = []; fault = Some (record { place = place; kind = F.Shape i }) }
heard_or_shape place (Ok m) later = record { said = record { place = place; message = m } ∷ later.said; fault = later.fault }

-- these packets as messages, and then the fault of the bytes
abbrev pub heard : Option Fault → List Packet → Heard
heard fault [] = record { said = []; fault = stop_of fault }
heard fault (p ∷ packets) = heard_or_shape p.place (from_client p.value) (heard fault packets)

-- the talk of all packets, and then the fault of the bytes
abbrev pub talk_of : Option Fault → List Packet → Talk
talk_of fault [] = record { first = None; said = []; fault = stop_of fault }
talk_of fault (p ∷ packets) = let later : Heard = heard fault packets in record { first = Some p; said = later.said; fault = later.fault }

-- the talk of these bytes, whose packets and chunks are of at most so many bytes
unfoldable pub talk : ℕ → List ℕ → Talk
talk limit bytes = talk_of (packets_of limit bytes).fault (packets_of limit bytes).packets

-- a talk without a fault, and one packet more
abbrev pub said_or_shape : Talk → ℕ → Result FromClient ℕ → Talk
said_or_shape t place (Err i) = record t { fault = Some (record { place = place; kind = F.Shape i }) }
said_or_shape t place (Ok m) = record t { said = t.said ++ record { place = place; message = m } ∷ [] }

abbrev pub more_said : Talk → Packet → Option Packet → Talk
more_said t p None = record t { first = Some p }
more_said t p (Some hello) = said_or_shape t p.place (from_client p.value)

-- the talk begins as the other: what was said stays said
pub record Continues (old new : Talk) : Type 0 where
  pub first : old.first ≢ None → new.first ≡ old.first
  pub more : List Said
  pub said : new.said ≡ old.said ++ more

-- packets without a fault that are followed by one packet say what they said, and this packet
abbrev pub PacketIsHeard : Type 0
PacketIsHeard = (given : List Packet) (p : Packet) → (talk_of None given).fault ≡ None
    → talk_of None (given ++ p ∷ []) ≡ more_said (talk_of None given) p (talk_of None given).first

-- behind packets without a fault, a first one among them, the later ones are heard next
abbrev pub LaterAreHeard : Type 0
LaterAreHeard = (fault : Option Fault) (given more : List Packet) → (talk_of None given).first ≢ None → (talk_of None given).fault ≡ None
    → talk_of fault (given ++ more) ≡ record (talk_of None given) { said = (talk_of None given).said ++ (heard fault more).said; fault = (heard fault more).fault }

-- packets without a fault that are followed by a fault of the bytes end in it
abbrev pub FaultIsHeard : Type 0
FaultIsHeard = (given : List Packet) (f : Fault) → (talk_of None given).fault ≡ None
    → talk_of (Some f) given ≡ record (talk_of None given) { fault = Some (record { place = f.place; kind = F.Frame f.kind }) }

-- a fault of a packet is the talk's, whatever follows
abbrev pub ShapeStays : Type 0
ShapeStays = (given more : List Packet) (fault : Option Fault) → (talk_of None given).fault ≢ None → talk_of fault (given ++ more) ≡ talk_of None given

-- behind whole packets, a hello first, the bytes of a message are said next
abbrev pub MessageIsHeard : Type 0
MessageIsHeard = (limit : ℕ) (given bytes : List ℕ) (m : FromClient) → IsClean (packets_of limit given) → (talk limit given).fault ≡ None → (talk limit given).first ≢ None
    → IsClientMessage limit bytes m
    → talk limit (given ++ bytes) ≡ record (talk limit given) { said = (talk limit given).said ++ record { place = (packets_of limit given).start; message = m } ∷ [] }

-- a part of a message, short of all, says nothing
abbrev pub PartIsUnheard : Type 0
PartIsUnheard = (limit : ℕ) (given bytes front more : List ℕ) (m : FromClient) → IsClean (packets_of limit given)
    → IsClientMessage limit bytes m → bytes ≡ front ++ more → more ≢ [] → talk limit (given ++ front) ≡ talk limit given

-- each packet is read as the message that is said at its place
abbrev pub AreSaid : List Packet → List Said → Type 0
AreSaid [] [] = Unit {0}
AreSaid [] (s ∷ said) = ⊥
AreSaid (p ∷ packets) [] = ⊥
AreSaid (p ∷ packets) (s ∷ said) = (s.place ≡ p.place) × (from_client p.value ≡ Ok s.message) × AreSaid packets said

-- packets have no fault exactly where each but the first is read as a message; these messages are said
abbrev pub PacketsAreSaid : Type 0
PacketsAreSaid = (first : Packet) (later : List Packet) (said : List Said)
    → (talk_of None (first ∷ later) ≡ record { first = Some first; said = said; fault = None }) ↔ AreSaid later said

-- the packets that a framer has given so far begin the talk of all bytes that it was fed
abbrev pub GivenAreSaid : Type 0
GivenAreSaid = (bytes : List ℕ) (given : List Packet) (f : Framing) → Follows bytes given f → Continues (talk_of None given) (talk f.limit bytes)

-- a fault of a packet that it gave is the talk's, whatever else it was fed
abbrev pub GivenFaultStays : Type 0
GivenFaultStays = (bytes : List ℕ) (given : List Packet) (f : Framing) → Follows bytes given f → (talk_of None given).fault ≢ None
    → talk f.limit bytes ≡ talk_of None given
