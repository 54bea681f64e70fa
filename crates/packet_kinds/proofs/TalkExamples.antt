-- Talks, computed from the definitions.
use Rattle.std.proofs.Common.{◌≡◌, ℕ, List, [], ◌∷◌, ◌++◌, refl, ap, ◌∙◌}
use Rattle.std.specs.Prelude.{codes, pos, Some, None, Ok, Err}
use Rattle.bencode_values.specs.declared.value.Key.TheVariants as K
use Rattle.bencode_values.specs.declared.value.Value.{Value}
use Rattle.bencode_values.specs.declared.value.Value.TheVariants as V
use Rattle.bencode_values.specs.Steps.{step, feed}
use Rattle.packet_frames.specs.declared.fault.FrameFault.TheVariants as F
use Rattle.packet_frames.specs.Header.{head_of}
use Rattle.packet_frames.specs.Framing.{read_of, frames, begins}
use Rattle.packet_frames.specs.Stream.{Packet, Stream, push, read_on, packets_of}
use Rattle.packet_kinds.specs.declared.fault.TalkFault.TheVariants as T
use Rattle.packet_kinds.specs.declared.from_client.FromClient.TheVariants as C
use Rattle.packet_kinds.specs.FromShapes.{from_client}
use Rattle.packet_kinds.specs.Talk.{talk_of, talk}
use Rattle.packet_kinds.proofs.Items.{int_of-Int}
use Rattle.packet_kinds.proofs.FromWritten.{from_client-List}

-- a packet without chunks
abbrev frame : ℕ → List ℕ → List ℕ
frame size content = 0x50 ∷ 0 ∷ 0 ∷ 0 ∷ 0 ∷ 0 ∷ 0 ∷ size ∷ content

abbrev hello : List ℕ
hello = frame 31 (codes "l5:hellod9:encodingsl5:rgb32eee")

abbrev hello_value : Value
hello_value = V.List (V.Bytes (codes "hello") ∷ V.Dict (record { key = K.Bytes (codes "encodings"); value = V.List (V.Bytes (codes "rgb32") ∷ []) } ∷ []) ∷ [])

abbrev map_items : List Value
map_items = V.Int (pos 1) ∷ V.Int (pos 0) ∷ V.Int (pos 0) ∷ V.Int (pos 1) ∷ V.Int (pos 1) ∷ []

-- a hello, a map, a later hello, a ping without its integer, and a map again
abbrev bytes : List ℕ
bytes = hello ++ frame 30 (codes "l10:map-windowi1ei0ei0ei1ei1ee") ++ frame 12 (codes "l5:helloi0ee") ++ frame 8 (codes "l4:pinge") ++ frame 30 (codes "l10:map-windowi1ei0ei0ei1ei1ee")

abbrev packets : List Packet
packets =
    record { place = 0; value = hello_value } ∷ record { place = 39; value = V.List (V.Bytes (codes "map-window") ∷ map_items) }
    ∷ record { place = 77; value = V.List (V.Bytes (codes "hello") ∷ V.Int (pos 0) ∷ []) } ∷ record { place = 97; value = V.List (V.Bytes (codes "ping") ∷ []) }
    ∷ record { place = 113; value = V.List (V.Bytes (codes "map-window") ∷ map_items) } ∷ []

bytes_read : packets_of 1048576 bytes ≡ record { packets = packets; start = 151; rest = []; fault = None }
unfolding push read_on begins frames head_of read_of feed step
bytes_read = refl

map_says : from_client (V.List (V.Bytes (codes "map-window") ∷ map_items)) ≡ Ok (C.MapWindow (pos 1) (V.Int (pos 0) ∷ V.Int (pos 0) ∷ V.Int (pos 1) ∷ V.Int (pos 1) ∷ []))
map_says = from_client-List (codes "map-window") map_items ∙ rw (int_of-Int (pos 1)) refl

hello_says : from_client (V.List (V.Bytes (codes "hello") ∷ V.Int (pos 0) ∷ [])) ≡ Ok (C.Hello (Some (V.Int (pos 0))))
hello_says = from_client-List (codes "hello") (V.Int (pos 0) ∷ [])

ping_says : from_client (V.List (V.Bytes (codes "ping") ∷ [])) ≡ Err 1
ping_says = from_client-List (codes "ping") []

-- what stands before the ping is said, the later hello as one that is no more than a message, and nothing behind it
a_ping_without_its_integer_ends_a_talk : talk 1048576 bytes ≡ record {
  first = Some (record { place = 0; value = hello_value });
  said = record { place = 39; message = C.MapWindow (pos 1) (V.Int (pos 0) ∷ V.Int (pos 0) ∷ V.Int (pos 1) ∷ V.Int (pos 1) ∷ []) } ∷ record { place = 77; message = C.Hello (Some (V.Int (pos 0))) } ∷ [];
  fault = Some (record { place = 97; kind = T.Shape 1 });
}
unfolding talk
a_ping_without_its_integer_ends_a_talk = ap (λ (s : Stream). talk_of s.fault s.packets) bytes_read ∙ rw (map_says, hello_says, ping_says) refl

-- a byte that begins no header is the talk's fault
another_first_byte_ends_a_talk : talk 1048576 (hello ++ 0x51 ∷ []) ≡ record { first = Some (record { place = 0; value = hello_value }); said = []; fault = Some (record { place = 39; kind = T.Frame F.Magic }) }
unfolding talk push read_on begins frames head_of read_of feed step
another_first_byte_ends_a_talk = refl

-- the first packet may be any value: whether it is a hello is asked elsewhere
any_first_packet_is_kept : talk 1048576 (frame 3 (codes "i1e")) ≡ record { first = Some (record { place = 0; value = V.Int (pos 1) }); said = []; fault = None }
unfolding talk push read_on begins frames head_of read_of feed step
any_first_packet_is_kept = refl
