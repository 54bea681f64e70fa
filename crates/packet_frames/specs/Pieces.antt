-- A whole stream that comes in pieces.
use Rattle.std.specs.Prelude.{◌≡◌, ℕ, Option, Some, None, List, map, length}
use Rattle.bencode_values.specs.declared.value.Value.{Value}
use Rattle.packet_frames.specs.declared.fault.FrameFault.{FrameFault}
use Rattle.packet_frames.specs.Stream.{Packet, Fault, packets_of}
use Rattle.packet_frames.specs.Following.{Framing, Follows}

abbrev pub given_of : List (ℕ × Value) → List Packet
given_of = map (λ p. record { place = p.0; value = p.1 })

abbrev pub fault_of : Option (ℕ × FrameFault) → Option Fault
fault_of None = None
fault_of (Some f) = Some (record { place = f.0; kind = f.1 })

-- how many bytes are left, where there is no fault
abbrev pub LeavesUnread : Option (ℕ × FrameFault) → ℕ → ℕ → Type 0
LeavesUnread None unread left = unread ≡ left
LeavesUnread (Some fault) unread left = Unit {0}

-- Fed these bytes, it has given all their packets, and this is their fault.
pub record TakesAll (bytes : List ℕ) (given : List (ℕ × Value)) (limit : ℕ) (f : Framing) (fault : Option (ℕ × FrameFault)) : Type 0 where
  pub follows : Follows bytes (given_of given) f
  pub same : f.limit ≡ limit
  pub packets : (packets_of limit bytes).packets ≡ given_of given
  pub fault_is : (packets_of limit bytes).fault ≡ fault_of fault
  pub unread : LeavesUnread fault (length f.rest) (length (packets_of limit bytes).rest)
