-- The bytes of a written packet.
use Rattle.std.proofs.Common.{◌≡◌, ◌≢◌, ℕ, ◌+◌, ◌/◌, ◌%◌, ◌^◌, ◌<◌, ◌≤◌, true, List, [], ◌∷◌, ◌++◌, length, take, drop, refl, sym, ap, ◌∙◌, arith}
use Rattle.std.specs.Prelude.{◌==◌, nat_le, Option, Some, None}
use Rattle.std.proofs.lemmas.Bool.Decides.{nat_tests}
use Rattle.std.proofs.lemmas.List.{length-append, append-nil}
use Rattle.std.proofs.Math.Seq.{take-append_seam, drop-append_seam}
use Rattle.bencode_values.specs.declared.value.Value.{Value}
use Rattle.bencode_values.specs.declared.reading.Read.TheVariants as R
use Rattle.bencode_values.specs.Grammar.{spelled, IsWithinLimits}
use Rattle.bencode_values.specs.Steps.{answer_of}
use Rattle.bencode_values.proofs.Runs.{value_read}
use Rattle.packet_frames.specs.declared.head.Head.TheVariants as H
use Rattle.packet_frames.specs.Header.{head_of, size_of, may_come}
use Rattle.packet_frames.specs.Framing.{Chunk, Beginning, part, whole, wrong, read_of, main_judged, put_in, put_or_wrong, put_all, indexes, frames, begins}
use Rattle.packet_frames.specs.Stream.{Fault, Stream, from_place, read_on, packets_of}
use Rattle.packet_frames.specs.Written.{Carried, frame_bytes, chunk_bytes, packet_bytes, filled, ChunkFits, MayBeWritten, IsWithin, IsClean, with_packet, IsThatPacket}
use Rattle.packet_frames.proofs.Frames.{frames-main, frames-chunk}
use Rattle.packet_frames.proofs.Fronts.{begins-front}
use Rattle.packet_frames.proofs.Streams.{read_on-append, read_on-fault, waiting, read_part, read_whole}
use Rattle.packet_frames.proofs.Reading.{begins-stays}

-- four bytes give the number back
size_back : (n : ℕ) → n < 2 ^ 32 → size_of (n / 16777216) (n / 65536 % 256) (n / 256 % 256) (n % 256) ≡ n
size_back n small = omega arith

-- a written header is read as it was written
head_written : (limit : ℕ) (given : List ℕ) (index : ℕ) (content more : List ℕ) → length content < 2 ^ 32 → length content ≤ limit → may_come index given ≡ true
    → head_of limit given (frame_bytes index content ++ more) ≡ H.Whole index (length content)
unfolding head_of
head_written limit given index content more sized within may =
    let fits : nat_le (length content) limit ≡ true = grind (arith, nat_tests) in
    rw (may, size_back (length content) sized, fits) refl

content_written : (index : ℕ) (content more : List ℕ) → take (length content) (drop 8 (frame_bytes index content ++ more)) ≡ content
content_written index content more = take-append_seam content more

behind_written : (index : ℕ) (content more : List ℕ) → drop (length content) (drop 8 (frame_bytes index content ++ more)) ≡ more
behind_written index content more = drop-append_seam content more

long_written : (index : ℕ) (content more : List ℕ) → 8 + length content ≤ length (frame_bytes index content ++ more)
long_written index content more = let n = length-append content more in omega arith

reads_written : (v : Value) → IsWithinLimits v → read_of (spelled v) ≡ R.Whole v (length (spelled v))
unfolding read_of
reads_written v limits = ap answer_of (value_read v limits)

-- the main packet, behind these chunks
main_written : (room limit at : ℕ) (chunks : List Chunk) (v : Value) → IsWithinLimits v → length (spelled v) < 2 ^ 32 → length (spelled v) ≤ limit → may_come 0 (indexes chunks) ≡ true
    → frames room limit at chunks (frame_bytes 0 (spelled v)) ≡ put_all at (at + 8 + length (spelled v)) chunks v
main_written room limit at chunks v limits sized within may =
    let bytes : List ℕ = frame_bytes 0 (spelled v) in
    let none : bytes ++ [] ≡ bytes = append-nil bytes in
    let same : (length (spelled v) == length (spelled v)) ≡ true = grind (arith, nat_tests) in
    ap (frames room limit at chunks) (sym none)
    ∙ frames-main room limit at chunks (bytes ++ []) (length (spelled v)) (head_written limit (indexes chunks) 0 (spelled v) [] sized within may) (long_written 0 (spelled v) [])
    ∙ ap (λ content. main_judged at (length (spelled v)) chunks (read_of content)) (content_written 0 (spelled v) [])
    ∙ ap (main_judged at (length (spelled v)) chunks) (reads_written v limits)
    ∙ rw same refl

main_behind : (index : ℕ) → index ≢ 0 → may_come 0 (index ∷ []) ≡ true
main_behind index other = grind (arith, nat_tests)

first_chunk : (index : ℕ) → may_come index [] ≡ true
first_chunk index = grind (arith, nat_tests)

-- the bytes of a written packet are this packet
pub begins_written : (limit : ℕ) (v : Value) (chunk : Option Carried) (w : Value) → MayBeWritten v chunk → IsWithin limit v chunk → filled v chunk ≡ Some w
    → begins limit (packet_bytes v chunk) ≡ whole (length (chunk_bytes chunk)) w (length (packet_bytes v chunk))
unfolding begins packet_bytes
begins_written limit v None w may within e =
    let same : v ≡ w = cc in
    let n : 0 + 8 + length (spelled v) ≡ length (frame_bytes 0 (spelled v)) = omega arith in
    main_written 4 limit 0 [] v may.limits may.sized within.content (first_chunk 0) ∙ ap (λ u. whole 0 u (0 + 8 + length (spelled v))) same ∙ ap (whole 0 w) n
begins_written limit v (Some c) w may within e =
    let other : c.index ≢ 0 = may.chunk_fits.0 in
    let main : List ℕ = frame_bytes 0 (spelled v) in
    let chunk : Chunk = record { index = c.index; at = 0; bytes = c.bytes } in
    let at : 0 + 8 + length c.bytes ≡ length (frame_bytes c.index c.bytes) = omega arith in
    let all = length-append (frame_bytes c.index c.bytes) main in
    let end : 0 + 8 + length c.bytes + 8 + length (spelled v) ≡ length (frame_bytes c.index c.bytes ++ main) = omega arith in
    frames-chunk 3 limit 0 [] (frame_bytes c.index c.bytes ++ main) c.index (length c.bytes)
    (head_written limit [] c.index c.bytes main may.chunk_fits.1 within.chunk_content (first_chunk c.index)) other (long_written c.index c.bytes main)
    ∙ ap (λ bytes. let ahead : Chunk = record { index = c.index; at = 0; bytes = bytes } in frames 3 limit (0 + 8 + length c.bytes) (ahead ∷ []) (drop (length c.bytes) (drop 8 (frame_bytes c.index c.bytes ++ main)))) (content_written c.index c.bytes main)
    ∙ ap (frames 3 limit (0 + 8 + length c.bytes) (chunk ∷ [])) (behind_written c.index c.bytes main)
    ∙ main_written 3 limit (0 + 8 + length c.bytes) (chunk ∷ []) v may.limits may.sized within.content (main_behind c.index other)
    ∙ ap (λ o. put_or_wrong chunk o (put_all (0 + 8 + length c.bytes) (0 + 8 + length c.bytes + 8 + length (spelled v)) [])) e
    ∙ ap (λ n. whole n w (0 + 8 + length c.bytes + 8 + length (spelled v))) at ∙ ap (whole (length (frame_bytes c.index c.bytes)) w) end

some_bytes : (v : Value) (chunk : Option Carried) → 0 < length (packet_bytes v chunk)
unfolding packet_bytes
some_bytes v chunk = let n = length-append (chunk_bytes chunk) (frame_bytes 0 (spelled v)) in omega arith

clean_is : (s : Stream) → IsClean s → s ≡ waiting s.packets s.start []
clean_is s clean =
    ap (λ r. let t : Stream = record { packets = s.packets; start = s.start; rest = r; fault = s.fault } in t) clean.rest
    ∙ ap (λ f. let t : Stream = record { packets = s.packets; start = s.start; rest = []; fault = f } in t) clean.fault

-- behind a clean stream they are one packet more
pub read_written : (limit : ℕ) (s : Stream) (v : Value) (chunk : Option Carried) (w : Value) → MayBeWritten v chunk → IsWithin limit v chunk → filled v chunk ≡ Some w → IsClean s
    → read_on limit s (packet_bytes v chunk) ≡ with_packet s v chunk w
read_written limit s v chunk w may within e clean =
    ap (λ t. read_on limit t (packet_bytes v chunk)) (clean_is s clean)
    ∙ read_whole limit s.packets s.start (length (chunk_bytes chunk)) w (length (packet_bytes v chunk)) [] (packet_bytes v chunk) (some_bytes v chunk) refl (begins_written limit v chunk w may within e)

pub written_follows : (limit : ℕ) (bytes : List ℕ) (v : Value) (chunk : Option Carried) (w : Value) → MayBeWritten v chunk → IsWithin limit v chunk → filled v chunk ≡ Some w
    → IsClean (packets_of limit bytes) → packets_of limit (bytes ++ packet_bytes v chunk) ≡ with_packet (packets_of limit bytes) v chunk w
written_follows limit bytes v chunk w may within e clean =
    read_on-append limit (from_place 0) bytes (packet_bytes v chunk) ∙ read_written limit (packets_of limit bytes) v chunk w may within e clean

-- a chunk that fits is put in
put_there : (o : Option Value) → o ≢ None → (w : Value) × (o ≡ Some w)
put_there None some = absurd (some refl)
put_there (Some w) some = (w, refl)

pub filled_there : (v : Value) (chunk : Option Carried) → ChunkFits v chunk → (w : Value) × (filled v chunk ≡ Some w)
filled_there v None fits = (v, refl)
filled_there v (Some c) fits = put_there (put_in v c.index c.bytes) fits.2

more_bytes : (more : List ℕ) → more ≢ [] → 0 < length more
more_bytes [] some = absurd (some refl)
more_bytes (b ∷ more) some = omega arith

module _ (limit at : ℕ) (w : Value) (front more : List ℕ) (some : more ≢ []) (e : begins limit (front ++ more) ≡ whole at w (length (front ++ more))) where
  front_by : (found : Beginning) → begins limit front ≡ found → begins limit front ≡ part
  front_by part here = here
  front_by (whole a u n) here =
      let same : whole a u n ≡ whole at w (length (front ++ more)) = sym here ∙ sym (begins-stays limit front more (λ none. (let h = sym here ∙ none in cc))) ∙ e in
      let sized : n ≡ length (front ++ more) = cc in
      let short = (begins-front limit front a u n here).within in
      absurd (let all = length-append front more in let left = more_bytes more some in omega arith)
  front_by (wrong k kind) here =
      absurd (let same : wrong k kind ≡ whole at w (length (front ++ more)) = sym here ∙ sym (begins-stays limit front more (λ none. (let h = sym here ∙ none in cc))) ∙ e in cc)

  pub front_part : begins limit front ≡ part
  front_part = front_by (begins limit front) refl

pub part_adds_none : (limit : ℕ) (bytes : List ℕ) (v : Value) (chunk : Option Carried) (front more : List ℕ) → MayBeWritten v chunk → IsWithin limit v chunk → packet_bytes v chunk ≡ front ++ more → more ≢ []
    → IsClean (packets_of limit bytes) → packets_of limit (bytes ++ front) ≡ record (packets_of limit bytes) { rest = front }
part_adds_none limit bytes v chunk front more may within parts some clean =
    let put = filled_there v chunk may.chunk_fits in
    let all : begins limit (front ++ more) ≡ whole (length (chunk_bytes chunk)) put.0 (length (front ++ more)) =
    ap (begins limit) (sym parts) ∙ begins_written limit v chunk put.0 may within put.1 ∙ ap (λ xs. whole (length (chunk_bytes chunk)) put.0 (length xs)) parts in
    let s : Stream = packets_of limit bytes in
    read_on-append limit (from_place 0) bytes front
    ∙ ap (λ t. read_on limit t front) (clean_is s clean)
    ∙ read_part limit s.packets s.start [] front (front_part limit (length (chunk_bytes chunk)) put.0 front more some all)
    ∙ ap (λ f. let t : Stream = record { packets = s.packets; start = s.start; rest = front; fault = f } in t) (sym clean.fault)

-- a fault is one
some_fault : (o : Option Fault) → o ≢ None → (f : Fault) × (o ≡ Some f)
some_fault None some = absurd (some refl)
some_fault (Some f) some = (f, refl)

pub stays_at_fault : (limit : ℕ) (s : Stream) (bytes : List ℕ) → s.fault ≢ None → read_on limit s bytes ≡ s
stays_at_fault limit s bytes some = let f = some_fault s.fault some in read_on-fault limit s f.0 bytes f.1

pub packet_bytes_are : (v : Value) (chunk : Option Carried) → chunk_bytes chunk ++ frame_bytes 0 (spelled v) ≡ packet_bytes v chunk
unfolding packet_bytes
packet_bytes_are v chunk = refl

-- alone they are this packet and no more
pub that_packet : (v : Value) (chunk : Option Carried) → MayBeWritten v chunk → IsThatPacket v chunk (packet_bytes v chunk)
that_packet v chunk may = λ limit w within e. read_written limit (from_place 0) v chunk w may within e (record { fault = refl; rest = refl })
