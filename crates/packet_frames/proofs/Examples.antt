-- Streams, computed: what each says by the rules of headers, chunks and contents.
use Rattle.std.proofs.Common.{◌≡◌, ℕ, List, [], ◌∷◌, Option, Some, None, refl, ap, ◌∙◌}
use Rattle.std.specs.Prelude.{pos}
use Rattle.bencode_values.specs.declared.value.Value.TheVariants as V
use Rattle.bencode_values.specs.declared.reading.Why.TheVariants as W
use Rattle.bencode_values.specs.Steps.{step, feed}
use Rattle.packet_frames.specs.declared.fault.FrameFault.{FrameFault}
use Rattle.packet_frames.specs.declared.fault.FrameFault.TheVariants as F
use Rattle.packet_frames.specs.Header.{head_of}
use Rattle.packet_frames.specs.Framing.{Chunk, put_or_wrong, put_all, read_of, frames, begins}
use Rattle.packet_frames.specs.Stream.{Stream, Fault, judged, push, read_on, packets_of}
use Rattle.packet_frames.proofs.Layers.{out-Bytes, put_in-fit, put_in-misfit, put_in-Bytes, empty_string}

-- what a stream of one MiB at most a frame holds: the places of its packets, how many bytes are left, and the fault
abbrev read : List ℕ → Stream
read bytes = packets_of 1048576 bytes

abbrev fault_at : ℕ → FrameFault → Option Fault
fault_at place kind = Some (record { place = place; kind = kind })

abbrev chunk : ℕ → ℕ → List ℕ → Chunk
chunk index at bytes = record { index = index; at = at; bytes = bytes }

-- nothing but these unread bytes
abbrev waiting : List ℕ → Stream
waiting bytes = record { packets = []; start = 0; rest = bytes; fault = None }

-- a level in its place, though the header is not whole
level_of_one : (read (80 ∷ 0 ∷ 1 ∷ [])).fault ≡ fault_at 2 (F.Level 1)
unfolding push read_on begins frames head_of read_of feed step
level_of_one = refl

-- flags that are neither 0 nor 8
flags_of_sixteen : (read (80 ∷ 16 ∷ [])).fault ≡ fault_at 1 (F.Flags 16)
unfolding push read_on begins frames head_of read_of feed step
flags_of_sixteen = refl

-- another first byte
no_magic : (read (81 ∷ [])).fault ≡ fault_at 0 F.Magic
unfolding push read_on begins frames head_of read_of feed step
no_magic = refl

-- flags 8 are let pass
flags_of_eight : read (80 ∷ 8 ∷ 0 ∷ 0 ∷ 0 ∷ 0 ∷ 0 ∷ 2 ∷ 108 ∷ 101 ∷ []) ≡ record { packets = record { place = 0; value = V.List [] } ∷ []; start = 10; rest = ([]); fault = None }
unfolding push read_on begins frames head_of read_of feed step
flags_of_eight = refl

-- a size one above the limit
size_above_the_limit : (read (80 ∷ 0 ∷ 0 ∷ 0 ∷ 0 ∷ 16 ∷ 0 ∷ 1 ∷ [])).fault ≡ fault_at 4 (F.Size 1048577)
unfolding push read_on begins frames head_of read_of feed step
size_above_the_limit = refl

-- a size is judged when its four bytes are there
size_in_part : read (80 ∷ 0 ∷ 0 ∷ 0 ∷ 0 ∷ 16 ∷ 0 ∷ []) ≡ record { packets = []; start = 0; rest = (80 ∷ 0 ∷ 0 ∷ 0 ∷ 0 ∷ 16 ∷ 0 ∷ []); fault = None }
unfolding push read_on begins frames head_of read_of feed step
size_in_part = refl

-- a chunk for an item that is not there
chunk_behind_the_list : (read (80 ∷ 0 ∷ 0 ∷ 1 ∷ 0 ∷ 0 ∷ 0 ∷ 1 ∷ 97 ∷ 80 ∷ 0 ∷ 0 ∷ 0 ∷ 0 ∷ 0 ∷ 0 ∷ 5 ∷ 108 ∷ 49 ∷ 58 ∷ 97 ∷ 101 ∷ [])).fault ≡ fault_at 3 (F.Chunk 1)
unfolding push read_on begins frames head_of read_of feed step
chunk_behind_the_list = ap (λ o. (judged (waiting (80 ∷ 0 ∷ 0 ∷ 1 ∷ 0 ∷ 0 ∷ 0 ∷ 1 ∷ 97 ∷ 80 ∷ 0 ∷ 0 ∷ 0 ∷ 0 ∷ 0 ∷ 0 ∷ 5 ∷ 108 ∷ 49 ∷ 58 ∷ 97 ∷ [])) (80 ∷ 0 ∷ 0 ∷ 1 ∷ 0 ∷ 0 ∷ 0 ∷ 1 ∷ 97 ∷ 80 ∷ 0 ∷ 0 ∷ 0 ∷ 0 ∷ 0 ∷ 0 ∷ 5 ∷ 108 ∷ 49 ∷ 58 ∷ 97 ∷ 101 ∷ []) (put_or_wrong (chunk 1 0 (97 ∷ [])) o (put_all 9 22 ([])))).fault) (put_in-misfit (V.Bytes (97 ∷ []) ∷ []) 1 (97 ∷ []) refl)

-- no bytes
nothing : read ([]) ≡ record { packets = []; start = 0; rest = ([]); fault = None }
unfolding push read_on begins frames head_of read_of feed step
nothing = refl

-- a chunk's bytes stand in the place of the empty string
chunk_put_in : read (80 ∷ 0 ∷ 0 ∷ 1 ∷ 0 ∷ 0 ∷ 0 ∷ 3 ∷ 7 ∷ 8 ∷ 9 ∷ 80 ∷ 0 ∷ 0 ∷ 0 ∷ 0 ∷ 0 ∷ 0 ∷ 7 ∷ 108 ∷ 49 ∷ 58 ∷ 97 ∷ 48 ∷ 58 ∷ 101 ∷ []) ≡ record { packets = record { place = 11; value = V.List (V.Bytes (97 ∷ []) ∷ V.Bytes (7 ∷ 8 ∷ 9 ∷ []) ∷ []) } ∷ []; start = 26; rest = ([]); fault = None }
unfolding push read_on begins frames head_of read_of feed step
chunk_put_in = ap (λ o. judged (waiting (80 ∷ 0 ∷ 0 ∷ 1 ∷ 0 ∷ 0 ∷ 0 ∷ 3 ∷ 7 ∷ 8 ∷ 9 ∷ 80 ∷ 0 ∷ 0 ∷ 0 ∷ 0 ∷ 0 ∷ 0 ∷ 7 ∷ 108 ∷ 49 ∷ 58 ∷ 97 ∷ 48 ∷ 58 ∷ [])) (80 ∷ 0 ∷ 0 ∷ 1 ∷ 0 ∷ 0 ∷ 0 ∷ 3 ∷ 7 ∷ 8 ∷ 9 ∷ 80 ∷ 0 ∷ 0 ∷ 0 ∷ 0 ∷ 0 ∷ 0 ∷ 7 ∷ 108 ∷ 49 ∷ 58 ∷ 97 ∷ 48 ∷ 58 ∷ 101 ∷ []) (put_or_wrong (chunk 1 0 (7 ∷ 8 ∷ 9 ∷ [])) o (put_all 11 26 []))) (put_in-fit (V.Bytes (97 ∷ []) ∷ V.Bytes ([]) ∷ []) 1 (7 ∷ 8 ∷ 9 ∷ []) (empty_string (V.Bytes ([])) _ (out-Bytes ([]))))

-- two packets, and a part of a third
two_packets : read (80 ∷ 0 ∷ 0 ∷ 0 ∷ 0 ∷ 0 ∷ 0 ∷ 2 ∷ 108 ∷ 101 ∷ 80 ∷ 0 ∷ 0 ∷ 0 ∷ 0 ∷ 0 ∷ 0 ∷ 3 ∷ 105 ∷ 49 ∷ 101 ∷ 80 ∷ 0 ∷ []) ≡ record { packets = record { place = 0; value = V.List [] } ∷ record { place = 10; value = V.Int (pos 1) } ∷ []; start = 21; rest = (80 ∷ 0 ∷ []); fault = None }
unfolding push read_on begins frames head_of read_of feed step
two_packets = refl

-- an index for the second time
repeated_index : (read (80 ∷ 0 ∷ 0 ∷ 1 ∷ 0 ∷ 0 ∷ 0 ∷ 0 ∷ 80 ∷ 0 ∷ 0 ∷ 1 ∷ [])).fault ≡ fault_at 11 (F.Chunk 1)
unfolding push read_on begins frames head_of read_of feed step
repeated_index = refl

-- a fifth chunk
fifth_chunk : (read (80 ∷ 0 ∷ 0 ∷ 1 ∷ 0 ∷ 0 ∷ 0 ∷ 0 ∷ 80 ∷ 0 ∷ 0 ∷ 2 ∷ 0 ∷ 0 ∷ 0 ∷ 0 ∷ 80 ∷ 0 ∷ 0 ∷ 3 ∷ 0 ∷ 0 ∷ 0 ∷ 0 ∷ 80 ∷ 0 ∷ 0 ∷ 4 ∷ 0 ∷ 0 ∷ 0 ∷ 0 ∷ 80 ∷ 0 ∷ 0 ∷ 5 ∷ [])).fault ≡ fault_at 35 (F.Chunk 5)
unfolding push read_on begins frames head_of read_of feed step
fifth_chunk = refl

-- a content that spells no value
bad_content : (read (80 ∷ 0 ∷ 0 ∷ 0 ∷ 0 ∷ 0 ∷ 0 ∷ 2 ∷ 108 ∷ 120 ∷ [])).fault ≡ fault_at 9 (F.Payload W.Letter)
unfolding push read_on begins frames head_of read_of feed step
bad_content = refl

-- a content that is a part of a spelling
cut_content : (read (80 ∷ 0 ∷ 0 ∷ 0 ∷ 0 ∷ 0 ∷ 0 ∷ 1 ∷ 108 ∷ [])).fault ≡ fault_at 9 F.Cut
unfolding push read_on begins frames head_of read_of feed step
cut_content = refl

-- a content that goes on behind the spelling
more_content : (read (80 ∷ 0 ∷ 0 ∷ 0 ∷ 0 ∷ 0 ∷ 0 ∷ 3 ∷ 108 ∷ 101 ∷ 108 ∷ [])).fault ≡ fault_at 10 F.Extra
unfolding push read_on begins frames head_of read_of feed step
more_content = refl

-- an empty content
empty_content : (read (80 ∷ 0 ∷ 0 ∷ 0 ∷ 0 ∷ 0 ∷ 0 ∷ 0 ∷ [])).fault ≡ fault_at 8 F.Cut
unfolding push read_on begins frames head_of read_of feed step
empty_content = refl

-- a chunk for a value that is no list
chunk_for_no_list : (read (80 ∷ 0 ∷ 0 ∷ 1 ∷ 0 ∷ 0 ∷ 0 ∷ 0 ∷ 80 ∷ 0 ∷ 0 ∷ 0 ∷ 0 ∷ 0 ∷ 0 ∷ 2 ∷ 48 ∷ 58 ∷ [])).fault ≡ fault_at 3 (F.Chunk 1)
unfolding push read_on begins frames head_of read_of feed step
chunk_for_no_list = ap (λ o. (judged (waiting (80 ∷ 0 ∷ 0 ∷ 1 ∷ 0 ∷ 0 ∷ 0 ∷ 0 ∷ 80 ∷ 0 ∷ 0 ∷ 0 ∷ 0 ∷ 0 ∷ 0 ∷ 2 ∷ 48 ∷ [])) (80 ∷ 0 ∷ 0 ∷ 1 ∷ 0 ∷ 0 ∷ 0 ∷ 0 ∷ 80 ∷ 0 ∷ 0 ∷ 0 ∷ 0 ∷ 0 ∷ 0 ∷ 2 ∷ 48 ∷ 58 ∷ []) (put_or_wrong (chunk 1 0 ([])) o (put_all 8 18 ([])))).fault) (put_in-Bytes [] 1 [])

-- a chunk for an item that is not there; the first chunk fits
chunk_for_no_item : (read (80 ∷ 0 ∷ 0 ∷ 1 ∷ 0 ∷ 0 ∷ 0 ∷ 1 ∷ 9 ∷ 80 ∷ 0 ∷ 0 ∷ 2 ∷ 0 ∷ 0 ∷ 0 ∷ 0 ∷ 80 ∷ 0 ∷ 0 ∷ 0 ∷ 0 ∷ 0 ∷ 0 ∷ 6 ∷ 108 ∷ 48 ∷ 58 ∷ 48 ∷ 58 ∷ 101 ∷ [])).fault ≡ fault_at 12 (F.Chunk 2)
unfolding push read_on begins frames head_of read_of feed step
chunk_for_no_item = ap (λ o. (judged (waiting (80 ∷ 0 ∷ 0 ∷ 1 ∷ 0 ∷ 0 ∷ 0 ∷ 1 ∷ 9 ∷ 80 ∷ 0 ∷ 0 ∷ 2 ∷ 0 ∷ 0 ∷ 0 ∷ 0 ∷ 80 ∷ 0 ∷ 0 ∷ 0 ∷ 0 ∷ 0 ∷ 0 ∷ 6 ∷ 108 ∷ 48 ∷ 58 ∷ 48 ∷ 58 ∷ [])) (80 ∷ 0 ∷ 0 ∷ 1 ∷ 0 ∷ 0 ∷ 0 ∷ 1 ∷ 9 ∷ 80 ∷ 0 ∷ 0 ∷ 2 ∷ 0 ∷ 0 ∷ 0 ∷ 0 ∷ 80 ∷ 0 ∷ 0 ∷ 0 ∷ 0 ∷ 0 ∷ 0 ∷ 6 ∷ 108 ∷ 48 ∷ 58 ∷ 48 ∷ 58 ∷ 101 ∷ []) (put_or_wrong (chunk 1 0 (9 ∷ [])) o (put_all 17 31 ((chunk 2 9 ([])) ∷ [])))).fault) (put_in-fit (V.Bytes ([]) ∷ V.Bytes ([]) ∷ []) 1 (9 ∷ []) (empty_string (V.Bytes ([])) _ (out-Bytes ([]))))
    ∙ ap (λ o. (judged (waiting (80 ∷ 0 ∷ 0 ∷ 1 ∷ 0 ∷ 0 ∷ 0 ∷ 1 ∷ 9 ∷ 80 ∷ 0 ∷ 0 ∷ 2 ∷ 0 ∷ 0 ∷ 0 ∷ 0 ∷ 80 ∷ 0 ∷ 0 ∷ 0 ∷ 0 ∷ 0 ∷ 0 ∷ 6 ∷ 108 ∷ 48 ∷ 58 ∷ 48 ∷ 58 ∷ [])) (80 ∷ 0 ∷ 0 ∷ 1 ∷ 0 ∷ 0 ∷ 0 ∷ 1 ∷ 9 ∷ 80 ∷ 0 ∷ 0 ∷ 2 ∷ 0 ∷ 0 ∷ 0 ∷ 0 ∷ 80 ∷ 0 ∷ 0 ∷ 0 ∷ 0 ∷ 0 ∷ 0 ∷ 6 ∷ 108 ∷ 48 ∷ 58 ∷ 48 ∷ 58 ∷ 101 ∷ []) (put_or_wrong (chunk 2 9 ([])) o (put_all 17 31 []))).fault) (put_in-misfit (V.Bytes ([]) ∷ V.Bytes (9 ∷ []) ∷ []) 2 [] refl)

-- behind a fault nothing is read
behind_a_fault : (read (81 ∷ 80 ∷ 0 ∷ 0 ∷ 0 ∷ 0 ∷ 0 ∷ 0 ∷ 2 ∷ 108 ∷ 101 ∷ [])).fault ≡ fault_at 0 F.Magic
unfolding push read_on begins frames head_of read_of feed step
behind_a_fault = refl

-- the first chunk that doesn't fit, in the order of arrival
first_that_does_not_fit : (read (80 ∷ 0 ∷ 0 ∷ 3 ∷ 0 ∷ 0 ∷ 0 ∷ 0 ∷ 80 ∷ 0 ∷ 0 ∷ 2 ∷ 0 ∷ 0 ∷ 0 ∷ 0 ∷ 80 ∷ 0 ∷ 0 ∷ 0 ∷ 0 ∷ 0 ∷ 0 ∷ 2 ∷ 108 ∷ 101 ∷ [])).fault ≡ fault_at 3 (F.Chunk 3)
unfolding push read_on begins frames head_of read_of feed step
first_that_does_not_fit = ap (λ o. (judged (waiting (80 ∷ 0 ∷ 0 ∷ 3 ∷ 0 ∷ 0 ∷ 0 ∷ 0 ∷ 80 ∷ 0 ∷ 0 ∷ 2 ∷ 0 ∷ 0 ∷ 0 ∷ 0 ∷ 80 ∷ 0 ∷ 0 ∷ 0 ∷ 0 ∷ 0 ∷ 0 ∷ 2 ∷ 108 ∷ [])) (80 ∷ 0 ∷ 0 ∷ 3 ∷ 0 ∷ 0 ∷ 0 ∷ 0 ∷ 80 ∷ 0 ∷ 0 ∷ 2 ∷ 0 ∷ 0 ∷ 0 ∷ 0 ∷ 80 ∷ 0 ∷ 0 ∷ 0 ∷ 0 ∷ 0 ∷ 0 ∷ 2 ∷ 108 ∷ 101 ∷ []) (put_or_wrong (chunk 3 0 ([])) o (put_all 16 26 ((chunk 2 8 ([])) ∷ [])))).fault) (put_in-misfit [] 3 [] refl)

-- a chunk for a string that is not empty
chunk_for_a_full_string : (read (80 ∷ 0 ∷ 0 ∷ 1 ∷ 0 ∷ 0 ∷ 0 ∷ 1 ∷ 9 ∷ 80 ∷ 0 ∷ 0 ∷ 0 ∷ 0 ∷ 0 ∷ 0 ∷ 8 ∷ 108 ∷ 49 ∷ 58 ∷ 97 ∷ 49 ∷ 58 ∷ 98 ∷ 101 ∷ [])).fault ≡ fault_at 3 (F.Chunk 1)
unfolding push read_on begins frames head_of read_of feed step
chunk_for_a_full_string = ap (λ o. (judged (waiting (80 ∷ 0 ∷ 0 ∷ 1 ∷ 0 ∷ 0 ∷ 0 ∷ 1 ∷ 9 ∷ 80 ∷ 0 ∷ 0 ∷ 0 ∷ 0 ∷ 0 ∷ 0 ∷ 8 ∷ 108 ∷ 49 ∷ 58 ∷ 97 ∷ 49 ∷ 58 ∷ 98 ∷ [])) (80 ∷ 0 ∷ 0 ∷ 1 ∷ 0 ∷ 0 ∷ 0 ∷ 1 ∷ 9 ∷ 80 ∷ 0 ∷ 0 ∷ 0 ∷ 0 ∷ 0 ∷ 0 ∷ 8 ∷ 108 ∷ 49 ∷ 58 ∷ 97 ∷ 49 ∷ 58 ∷ 98 ∷ 101 ∷ []) (put_or_wrong (chunk 1 0 (9 ∷ [])) o (put_all 9 25 []))).fault) (put_in-misfit (V.Bytes (97 ∷ []) ∷ V.Bytes (98 ∷ []) ∷ []) 1 (9 ∷ []) (empty_string (V.Bytes (98 ∷ [])) _ (out-Bytes (98 ∷ []))))
