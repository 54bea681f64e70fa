-- The byte strings of a packet's list: they are bytes where the stream's are.
use Rattle.std.specs.Prelude.{ℕ, ◌<◌, List, []}
use Rattle.std.specs.List.{AllByRecursion}
use Rattle.bencode_values.specs.declared.value.Value.{Value, out-Value}
use Rattle.bencode_values.specs.declared.value.Value.TheOpen.{Value-F}
use Rattle.bencode_values.specs.declared.value.Pair.{Pair}
use Rattle.packet_frames.specs.Stream.{packets_of}

abbrev pub AreBytes : List ℕ → Type 0
AreBytes bytes = AllByRecursion (λ byte. byte < 256) bytes

abbrev pub text_layer : Value-F Value Pair → List ℕ
text_layer (Value-F.Int n) = []
text_layer (Value-F.Bytes text) = text
text_layer (Value-F.List items) = []
text_layer (Value-F.Dict pairs) = []

abbrev pub items_layer : Value-F Value Pair → List Value
items_layer (Value-F.Int n) = []
items_layer (Value-F.Bytes text) = []
items_layer (Value-F.List items) = items
items_layer (Value-F.Dict pairs) = []

-- the bytes of a byte string, and the items of a list; of another value none
unfoldable pub text_in : Value → List ℕ
text_in v = text_layer (out-Value v)

unfoldable pub items_in : Value → List Value
items_in v = items_layer (out-Value v)

-- each byte string in the list is one of bytes
abbrev pub IsOfBytes : Value → Type 0
IsOfBytes v = AllByRecursion (λ item. AreBytes (text_in item)) (items_in v)

-- where a stream is of bytes, so are the byte strings in the list of each of its packets
abbrev pub PacketsAreOfBytes : Type 0
PacketsAreOfBytes = (limit : ℕ) (bytes : List ℕ) → AreBytes bytes → AllByRecursion (λ packet. IsOfBytes packet.value) (packets_of limit bytes).packets
