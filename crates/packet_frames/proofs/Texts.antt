-- The byte strings of packets.
use Rattle.std.proofs.Common.{◌≡◌, ℕ, zero, suc, ◌+◌, ◌-◌, ◌<◌, Bool, true, false, List, [], ◌∷◌, ◌++◌, length, take, drop, cond, refl, sym, ap, subst, ◌∙◌, arith}
use Rattle.std.specs.Prelude.{Option, Some, None, ℤ, nat_lt, ◌==◌, slice_get, slice_set, if◌then◌else◌}
use Rattle.std.specs.List.{AllByRecursion, list_all}
use Rattle.std.proofs.lemmas.Bool.{and_parts, cond_both}
use Rattle.std.proofs.lemmas.Bool.Decides.{nat_tests}
use Rattle.bencode_values.specs.declared.value.Value.{Value}
use Rattle.bencode_values.specs.declared.value.Value.TheVariants as V
use Rattle.bencode_values.specs.declared.value.Pair.{Pair}
use Rattle.bencode_values.specs.declared.reading.Read.{Read}
use Rattle.bencode_values.specs.declared.reading.Read.TheVariants as R
use Rattle.bencode_values.specs.Grammar.{Fits}
use Rattle.bencode_values.specs.Reading.{Reads}
use Rattle.bencode_values.proofs.Completing.{bytes-append}
use Rattle.bencode_values.proofs.Values.{induction, of_Bytes, of_List}
use Rattle.packet_frames.specs.declared.head.Head.{Head}
use Rattle.packet_frames.specs.declared.head.Head.TheVariants as H
use Rattle.packet_frames.specs.Header.{head_of}
use Rattle.packet_frames.specs.Framing.{Chunk, Beginning, part, whole, wrong, is_empty_string, put_in, put_in_layer, read_of, put_or_wrong, put_all, main_judged, content_judged, frame_judged, indexes, nothing_more, frames, begins}
use Rattle.packet_frames.specs.Stream.{Packet, Fault, Stream, judged, push_where, push, from_place, read_on, packets_of}
use Rattle.packet_frames.specs.Texts.{AreBytes, text_in, items_in, text_layer, items_layer, IsOfBytes, PacketsAreOfBytes}
use Rattle.packet_frames.proofs.Layers.{out-Int, out-Bytes, out-List, out-Dict, put_in-List, put_in-Int, put_in-Bytes, put_in-Dict}
use Rattle.packet_frames.proofs.Contents.{bytes-take, bytes-drop, content_reads}

pub text_in-Bytes : (text : List ℕ) → text_in (V.Bytes text) ≡ text
unfolding text_in
text_in-Bytes text = ap text_layer (out-Bytes text)

text_in-Int : (n : ℤ) → text_in (V.Int n) ≡ []
unfolding text_in
text_in-Int n = ap text_layer (out-Int n)

text_in-List : (vs : List Value) → text_in (V.List vs) ≡ []
unfolding text_in
text_in-List vs = ap text_layer (out-List vs)

text_in-Dict : (ps : List Pair) → text_in (V.Dict ps) ≡ []
unfolding text_in
text_in-Dict ps = ap text_layer (out-Dict ps)

pub items_in-List : (vs : List Value) → items_in (V.List vs) ≡ vs
unfolding items_in
items_in-List vs = ap items_layer (out-List vs)

items_in-Int : (n : ℤ) → items_in (V.Int n) ≡ []
unfolding items_in
items_in-Int n = ap items_layer (out-Int n)

items_in-Bytes : (text : List ℕ) → items_in (V.Bytes text) ≡ []
unfolding items_in
items_in-Bytes text = ap items_layer (out-Bytes text)

items_in-Dict : (ps : List Pair) → items_in (V.Dict ps) ≡ []
unfolding items_in
items_in-Dict ps = ap items_layer (out-Dict ps)

abbrev IsText : Value → Type 0
IsText v = AreBytes (text_in v)

abbrev AreTexts : List Value → Type 0
AreTexts = AllByRecursion IsText

tested_bytes : (text : List ℕ) → list_all (λ b. nat_lt b 256) text ≡ true → AreBytes text
tested_bytes [] h = tt
tested_bytes (b ∷ text) h = let parts = and_parts (nat_lt b 256) (list_all (λ c. nat_lt c 256) text) h in let first = parts.0 in (grind (arith, nat_tests), tested_bytes text parts.1)

-- what keeps the limits of values is of bytes
text_fits : (room : ℕ) (v : Value) → Fits room v → IsText v
text_fits room = induction (λ v. Fits room v → IsText v) (λ _. Unit {0})
    (λ n fits. subst AreBytes (sym (text_in-Int n)) tt)
    (λ text fits. subst AreBytes (sym (text_in-Bytes text)) (tested_bytes text (and_parts _ _ (of_Bytes room text fits)).1))
    (λ vs _ fits. subst AreBytes (sym (text_in-List vs)) tt)
    (λ ps _ fits. subst AreBytes (sym (text_in-Dict ps)) tt)
    (λ _ _ _. tt)

texts_fit : (room : ℕ) (vs : List Value) → AllByRecursion (Fits room) vs → AreTexts vs
texts_fit room [] h = tt
texts_fit room (v ∷ vs) h = (text_fits room v h.0, texts_fit room vs h.1)

whole_fits : (room : ℕ) (v : Value) → Fits room v → IsOfBytes v
whole_fits room = induction (λ v. Fits room v → IsOfBytes v) (λ _. Unit {0})
    (λ n fits. subst AreTexts (sym (items_in-Int n)) tt)
    (λ text fits. subst AreTexts (sym (items_in-Bytes text)) tt)
    (λ vs _ fits. subst AreTexts (sym (items_in-List vs)) (texts_fit (room - 1) vs (of_List room vs fits).1))
    (λ ps _ fits. subst AreTexts (sym (items_in-Dict ps)) tt)
    (λ _ _ _. tt)

texts-set : (vs : List Value) (i : ℕ) (v : Value) → AreTexts vs → IsText v → AreTexts (slice_set vs i v)
texts-set [] i v all one = all
texts-set (w ∷ vs) zero v all one = (one, all.1)
texts-set (w ∷ vs) (suc i) v all one = (all.0, texts-set vs i v all.1 one)

-- what is so of a value, where there is one
abbrev Where : Option Value → Type 0
Where None = Unit {0}
Where (Some v) = IsOfBytes v

put_in_texts : (v : Value) (index : ℕ) (bytes : List ℕ) → AreBytes bytes → IsOfBytes v → Where (put_in v index bytes)
put_in_texts v index bytes are = induction (λ v. IsOfBytes v → Where (put_in v index bytes)) (λ _. Unit {0})
    (λ n of. subst Where (sym (put_in-Int n index bytes)) tt)
    (λ text of. subst Where (sym (put_in-Bytes text index bytes)) tt)
    (λ vs _ of. subst Where (sym (put_in-List vs index bytes))
    (cond_both (is_empty_string (slice_get vs index)) (Some (V.List (slice_set vs index (V.Bytes bytes)))) None Where
    (λ _. subst AreTexts (sym (items_in-List (slice_set vs index (V.Bytes bytes))))
    (texts-set vs index (V.Bytes bytes) (subst AreTexts (items_in-List vs) of) (subst AreBytes (sym (text_in-Bytes bytes)) are)))
    (λ _. tt)))
    (λ ps _ of. subst Where (sym (put_in-Dict ps index bytes)) tt)
    (λ _ _ _. tt)
    v

-- a packet that the bytes begin with is of bytes
abbrev Begins : Beginning → Type 0
Begins part = Unit {0}
Begins (whole at v size) = IsOfBytes v
Begins (wrong at kind) = Unit {0}

abbrev AreChunks : List Chunk → Type 0
AreChunks = AllByRecursion (λ c. AreBytes c.bytes)

chunks-append : (cs ds : List Chunk) → AreChunks cs → AreChunks ds → AreChunks (cs ++ ds)
chunks-append [] ds all more = more
chunks-append (c ∷ cs) ds all more = (all.0, chunks-append cs ds all.1 more)

put_one : (c : Chunk) (o : Option Value) (next : Value → Beginning) → Where o → ((v : Value) → IsOfBytes v → Begins (next v)) → Begins (put_or_wrong c o next)
put_one c None next of later = tt
put_one c (Some v) next of later = later v of

put_each : (at size : ℕ) (cs : List Chunk) (v : Value) → AreChunks cs → IsOfBytes v → Begins (put_all at size cs v)
put_each at size [] v all of = of
put_each at size (c ∷ cs) v all of = put_one c (put_in v c.index c.bytes) (put_all at size cs) (put_in_texts v c.index c.bytes all.0 of) (λ w is. put_each at size cs w all.1 is)

main_texts : (at size : ℕ) (cs : List Chunk) (content : List ℕ) (answer : Read) → Reads content answer → AreChunks cs → Begins (main_judged at size cs answer)
main_texts at size cs content (R.Whole v used) reads all =
    cond_both (used == size) (put_all at (at + 8 + size) cs v) _ Begins (λ _. put_each at (at + 8 + size) cs v all (whole_fits 32 v reads.limits)) (λ _. tt)
main_texts at size cs content R.Short reads all = tt
main_texts at size cs content (R.Bad place why) reads all = tt
main_texts at size cs content R.NoMemory reads all = tt

-- what goes on behind a chunk
abbrev Later : (ℕ → List Chunk → List ℕ → Beginning) → Type 0
Later next = (at : ℕ) (cs : List Chunk) (bytes : List ℕ) → AreChunks cs → AreBytes bytes → Begins (next at cs bytes)

content_texts : (at : ℕ) (cs : List Chunk) (index size : ℕ) (bytes : List ℕ) (next : ℕ → List Chunk → List ℕ → Beginning) → AreChunks cs → AreBytes bytes → Later next
    → Begins (content_judged at cs index size bytes next)
content_texts at cs index size bytes next all are later =
    let front = bytes-take size bytes are in
    let chunk : Chunk = record { index = index; at = at; bytes = take size bytes } in
    cond_both (nat_lt (length bytes) size) part _ Begins (λ _. tt)
    (λ _. cond_both (index == 0) (main_judged at size cs (read_of (take size bytes))) (next (at + 8 + size) (cs ++ chunk ∷ []) (drop size bytes)) Begins
    (λ _. main_texts at size cs (take size bytes) (read_of (take size bytes)) (content_reads (take size bytes) front).0 all)
    (λ _. later (at + 8 + size) (cs ++ chunk ∷ []) (drop size bytes) (chunks-append cs (chunk ∷ []) all (front, tt)) (bytes-drop size bytes are)))

frame_texts : (at : ℕ) (cs : List Chunk) (bytes : List ℕ) (next : ℕ → List Chunk → List ℕ → Beginning) (head : Head) → AreChunks cs → AreBytes bytes → Later next
    → Begins (frame_judged at cs bytes next head)
frame_texts at cs bytes next H.Part all are later = tt
frame_texts at cs bytes next (H.Wrong place kind) all are later = tt
frame_texts at cs bytes next (H.Whole index size) all are later = content_texts at cs index size (drop 8 bytes) next all (bytes-drop 8 bytes are) later

frames_texts : (more limit : ℕ) → Later (frames more limit)
unfolding frames
frames_texts zero limit at cs bytes all are = frame_texts at cs bytes nothing_more (head_of limit (indexes cs) bytes) all are (λ _ _ _ _ _. tt)
frames_texts (suc more) limit at cs bytes all are = frame_texts at cs bytes (frames more limit) (head_of limit (indexes cs) bytes) all are (frames_texts more limit)

begins_texts : (limit : ℕ) (bytes : List ℕ) → AreBytes bytes → Begins (begins limit bytes)
unfolding begins
begins_texts limit bytes are = frames_texts 4 limit 0 [] bytes tt are

-- the packets and the bytes behind them
record OfBytes (s : Stream) : Type 0 where
  packets : AllByRecursion (λ (p : Packet). IsOfBytes p.value) s.packets
  rest : AreBytes s.rest

packets-append : (ps qs : List Packet) → AllByRecursion (λ (p : Packet). IsOfBytes p.value) ps → AllByRecursion (λ (p : Packet). IsOfBytes p.value) qs
    → AllByRecursion (λ (p : Packet). IsOfBytes p.value) (ps ++ qs)
packets-append [] qs all more = more
packets-append (p ∷ ps) qs all more = (all.0, packets-append ps qs all.1 more)

judged_texts : (s : Stream) (rest : List ℕ) (b : Beginning) → OfBytes s → AreBytes rest → Begins b → OfBytes (judged s rest b)
judged_texts s rest part of are begun = record { packets = of.packets; rest = are }
judged_texts s rest (whole at v size) of are begun = record { packets = packets-append s.packets _ of.packets (begun, tt); rest = tt }
judged_texts s rest (wrong at kind) of are begun = record { packets = of.packets; rest = are }

push_texts : (limit : ℕ) (s : Stream) (b : ℕ) (o : Option Fault) → b < 256 → OfBytes s → OfBytes (push_where limit s b o)
push_texts limit s b None small of =
    let all = bytes-append s.rest (b ∷ []) of.rest (small, tt) in
    judged_texts s (s.rest ++ b ∷ []) (begins limit (s.rest ++ b ∷ [])) of all (begins_texts limit (s.rest ++ b ∷ []) all)
push_texts limit s b (Some fault) small of = of

read_on_texts : (limit : ℕ) (s : Stream) (bytes : List ℕ) → AreBytes bytes → OfBytes s → OfBytes (read_on limit s bytes)
unfolding read_on push
read_on_texts limit s [] are of = of
read_on_texts limit s (b ∷ bytes) are of = read_on_texts limit (push limit s b) bytes are.1 (push_texts limit s b s.fault are.0 of)

pub packets_of_bytes : PacketsAreOfBytes
packets_of_bytes limit bytes are = (read_on_texts limit (from_place 0) bytes are (record { packets = tt; rest = tt })).packets
