-- The bytes of a packet as this product writes them: flags 0, level 0, and at most one chunk ahead.
use Rattle.std.specs.Prelude.{◌≡◌, ◌≢◌, ℕ, ◌/◌, ◌%◌, ◌^◌, ◌≤◌, ◌<◌, Option, Some, None, List, [], ◌∷◌, ◌++◌, length}
use Rattle.xp_base.specs.Counts.{count_sum}
use Rattle.bencode_values.specs.declared.value.Value.{Value}
use Rattle.bencode_values.specs.Grammar.{spelled, IsWithinLimits}
use Rattle.packet_frames.specs.Framing.{put_in}
use Rattle.packet_frames.specs.Stream.{Stream, packets_of}

-- a chunk to write: the item that it stands for, and its bytes
pub record Carried : Type 0 where
  pub index : ℕ
  pub bytes : List ℕ

-- a header and what follows it
abbrev pub frame_bytes : ℕ → List ℕ → List ℕ
frame_bytes index content =
    80 ∷ 0 ∷ 0 ∷ index ∷ length content / 16777216 ∷ length content / 65536 % 256 ∷ length content / 256 % 256 ∷ length content % 256 ∷ content

-- the chunk's bytes, and then those of the main packet
abbrev pub chunk_bytes : Option Carried → List ℕ
chunk_bytes None = []
chunk_bytes (Some c) = frame_bytes c.index c.bytes

unfoldable pub packet_bytes : Value → Option Carried → List ℕ
packet_bytes v chunk = chunk_bytes chunk ++ frame_bytes 0 (spelled v)

-- the value with the chunk's bytes put in
abbrev pub filled : Value → Option Carried → Option Value
filled v None = Some v
filled v (Some c) = put_in v c.index c.bytes

-- a chunk stands for an empty byte string of the list, not at the place 0, and its size has four bytes
abbrev pub ChunkFits : Value → Option Carried → Type 0
ChunkFits v None = Unit {0}
ChunkFits v (Some c) = (c.index ≢ 0) × (length c.bytes < 2 ^ 32) × (put_in v c.index c.bytes ≢ None)

-- what may be written
pub record MayBeWritten (v : Value) (chunk : Option Carried) : Type 0 where
  pub limits : IsWithinLimits v
  pub sized : length (spelled v) < 2 ^ 32
  pub chunk_fits : ChunkFits v chunk

abbrev pub ChunkIsWithin : ℕ → Option Carried → Type 0
ChunkIsWithin limit None = Unit {0}
ChunkIsWithin limit (Some c) = length c.bytes ≤ limit

-- neither size exceeds the limit
pub record IsWithin (limit : ℕ) (v : Value) (chunk : Option Carried) : Type 0 where
  pub content : length (spelled v) ≤ limit
  pub chunk_content : ChunkIsWithin limit chunk

-- a stream with one packet more, and nothing unread
abbrev pub with_packet : Stream → Value → Option Carried → Value → Stream
with_packet s v chunk w = record {
  packets = s.packets ++ record { place = count_sum s.start (length (chunk_bytes chunk)); value = w } ∷ [];
  start = count_sum s.start (length (packet_bytes v chunk));
  rest = [];
  fault = None;
}

-- no fault, and nothing unread
pub record IsClean (s : Stream) : Type 0 where
  pub fault : s.fault ≡ None
  pub rest : s.rest ≡ []

-- Behind a stream that is clean, the bytes of a packet are this packet, with the chunk's bytes put in.
abbrev pub WrittenFollows : Type 0
WrittenFollows = (limit : ℕ) (bytes : List ℕ) (v : Value) (chunk : Option Carried) (w : Value) → MayBeWritten v chunk → IsWithin limit v chunk → filled v chunk ≡ Some w
    → IsClean (packets_of limit bytes) → packets_of limit (bytes ++ packet_bytes v chunk) ≡ with_packet (packets_of limit bytes) v chunk w

-- A part of a packet's bytes, short of them all, adds none: it is the unread rest.
abbrev pub PartAddsNone : Type 0
PartAddsNone = (limit : ℕ) (bytes : List ℕ) (v : Value) (chunk : Option Carried) (front more : List ℕ) → MayBeWritten v chunk → IsWithin limit v chunk → packet_bytes v chunk ≡ front ++ more → more ≢ []
    → IsClean (packets_of limit bytes) → packets_of limit (bytes ++ front) ≡ record (packets_of limit bytes) { rest = front }

-- the packets of these bytes are this one, with nothing unread and no fault
abbrev pub IsThatPacket : Value → Option Carried → List ℕ → Type 0
IsThatPacket v chunk bytes = (limit : ℕ) (w : Value) → IsWithin limit v chunk → filled v chunk ≡ Some w
    → packets_of limit bytes ≡ record { packets = record { place = count_sum 0 (length (chunk_bytes chunk)); value = w } ∷ []; start = count_sum 0 (length bytes); rest = []; fault = None }
