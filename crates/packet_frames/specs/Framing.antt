-- What the bytes of one packet begin with: up to four chunks, and the main packet that they go before. A stream's
-- bytes are judged by it; see Stream. The order of the faults is this project's own.
use Rattle.std.specs.Prelude.{ℕ, zero, suc, ◌+◌, ◌==◌, Bool, true, false, Option, Some, None, List, [], ◌∷◌, ◌++◌, length, map, take, drop, slice_get, slice_set, nat_lt, if◌then◌else◌}
use Rattle.bencode_values.specs.declared.value.Value.{Value, out-Value}
use Rattle.bencode_values.specs.declared.value.Value.TheVariants as V
use Rattle.bencode_values.specs.declared.value.Value.TheOpen.{Value-F}
use Rattle.bencode_values.specs.declared.value.Pair.{Pair}
use Rattle.bencode_values.specs.declared.reading.Read.{Read}
use Rattle.bencode_values.specs.declared.reading.Read.TheVariants as R
use Rattle.bencode_values.specs.Steps.{going, start, feed, answer_of}
use Rattle.packet_frames.specs.declared.fault.FrameFault.{FrameFault}
use Rattle.packet_frames.specs.declared.fault.FrameFault.TheVariants as F
use Rattle.packet_frames.specs.declared.head.Head.{Head}
use Rattle.packet_frames.specs.declared.head.Head.TheVariants as H
use Rattle.packet_frames.specs.Header.{head_of}

-- a chunk ahead of its packet: the item that it stands for, where its header begins, and its bytes
pub record Chunk : Type 0 where
  pub index : ℕ
  pub at : ℕ
  pub bytes : List ℕ

-- What the bytes begin with: a part of a packet with no fault; a packet, with the place of its main header, its value
-- and how many bytes it has; or a fault with its place. Places count from the packet's first byte.
pub data Beginning : Type 0 where
  part : Beginning
  whole : ℕ → Value → ℕ → Beginning
  wrong : ℕ → FrameFault → Beginning

-- what a content reads as: the bencode reader's answer (Reading in `bencode_values` says what it means)
unfoldable pub read_of : List ℕ → Read
read_of content = answer_of (feed (going 0 [] start) content)

abbrev pub is_empty_layer : Value-F Value Pair → Bool
is_empty_layer (Value-F.Int n) = false
is_empty_layer (Value-F.Bytes []) = true
is_empty_layer (Value-F.Bytes (b ∷ text)) = false
is_empty_layer (Value-F.List items) = false
is_empty_layer (Value-F.Dict pairs) = false

-- whether it is an item, and an empty byte string
abbrev pub is_empty_string : Option Value → Bool
is_empty_string None = false
is_empty_string (Some v) = is_empty_layer (out-Value v)

abbrev pub put_in_layer : Value-F Value Pair → ℕ → List ℕ → Option Value
put_in_layer (Value-F.Int n) index bytes = None
put_in_layer (Value-F.Bytes text) index bytes = None
put_in_layer (Value-F.List items) index bytes =
    if is_empty_string (slice_get items index) then Some (V.List (slice_set items index (V.Bytes bytes))) else None
put_in_layer (Value-F.Dict pairs) index bytes = None

-- a chunk's bytes in the place of the empty byte string that they stand for, if the value is a list that has it there
unfoldable pub put_in : Value → ℕ → List ℕ → Option Value
put_in v index bytes = put_in_layer (out-Value v) index bytes

-- the first chunk that doesn't fit is a fault at its index's byte
abbrev pub put_or_wrong : Chunk → Option Value → (Value → Beginning) → Beginning
put_or_wrong c None next = wrong (c.at + 3) (F.Chunk c.index)
put_or_wrong c (Some v) next = next v

-- the chunks' bytes put into the value, in the order of arrival
abbrev pub put_all : ℕ → ℕ → List Chunk → Value → Beginning
put_all at size [] v = whole at v size
put_all at size (c ∷ cs) v = put_or_wrong c (put_in v c.index c.bytes) (put_all at size cs)

-- a main packet whose header is at this place, by what its content of this size reads as
abbrev pub main_judged : ℕ → ℕ → List Chunk → Read → Beginning
main_judged at size chunks (R.Whole v used) =
    if used == size then put_all at (at + 8 + size) chunks v else wrong (at + 8 + used) F.Extra
main_judged at size chunks R.Short = wrong (at + 8 + size) F.Cut
main_judged at size chunks (R.Bad place why) = wrong (at + 8 + place) (F.Payload why)
main_judged at size chunks R.NoMemory = part

-- a content, judged where it is whole: a chunk's is kept, and what goes on behind it is judged
abbrev pub content_judged : ℕ → List Chunk → ℕ → ℕ → List ℕ → (ℕ → List Chunk → List ℕ → Beginning) → Beginning
content_judged at chunks index size bytes next =
    if nat_lt (length bytes) size then part
    else if index == 0 then main_judged at size chunks (read_of (take size bytes))
    else next (at + 8 + size) (chunks ++ record { index = index; at = at; bytes = take size bytes } ∷ []) (drop size bytes)

abbrev pub frame_judged : ℕ → List Chunk → List ℕ → (ℕ → List Chunk → List ℕ → Beginning) → Head → Beginning
frame_judged at chunks bytes next H.Part = part
frame_judged at chunks bytes next (H.Wrong place fault) = wrong (at + place) fault
frame_judged at chunks bytes next (H.Whole index size) = content_judged at chunks index size (drop 8 bytes) next

abbrev pub indexes : List Chunk → List ℕ
indexes = map (λ c. c.index)

-- behind no chunk that may come there is nothing to judge
abbrev pub nothing_more : ℕ → List Chunk → List ℕ → Beginning
nothing_more at chunks bytes = part

-- Where so many more chunks may come, and the header at this place is the next, behind these chunks. (With
-- none more to come the header is that of a main packet, or wrong.)
unfoldable pub frames : ℕ → ℕ → ℕ → List Chunk → List ℕ → Beginning
frames zero limit at chunks bytes = frame_judged at chunks bytes nothing_more (head_of limit (indexes chunks) bytes)
frames (suc more) limit at chunks bytes = frame_judged at chunks bytes (frames more limit) (head_of limit (indexes chunks) bytes)

-- what the bytes behind a packet begin with
unfoldable pub begins : ℕ → List ℕ → Beginning
begins limit bytes = frames 4 limit 0 [] bytes
