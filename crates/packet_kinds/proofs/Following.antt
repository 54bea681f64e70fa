-- Pictures of streams that go on.
use Rattle.std.proofs.Common.{◌≡◌, ℕ, ◌<◌, List, [], ◌∷◌, ◌++◌, length, refl, sym, ap, ◌∙◌, arith}
use Rattle.std.specs.Prelude.{Option, Some, None, Result, Ok, Err}
use Rattle.std.specs.Fmt.{decimal}
use Rattle.std.proofs.lemmas.List.{length-append}
use Rattle.bencode_values.specs.declared.value.Value.{Value}
use Rattle.bencode_values.specs.Grammar.{spelled}
use Rattle.bencode_values.proofs.Values.{induction, spelled-Int, spelled-Bytes, spelled-List, spelled-Dict}
use Rattle.window_model.specs.Desktop.{Window}
use Rattle.packet_frames.specs.Stream.{Packet, Fault, Stream, read_on, packets_of}
use Rattle.packet_frames.specs.Written.{Carried, chunk_bytes, frame_bytes, packet_bytes, with_packet}
use Rattle.packet_frames.proofs.Writing.{written_follows, part_adds_none}
use Rattle.packet_kinds.specs.declared.to_client.ToClient.{ToClient}
use Rattle.packet_kinds.specs.ToShapes.{to_client}
use Rattle.packet_kinds.specs.Effects.{effect}
use Rattle.packet_kinds.specs.Picture.{Picture, shown_or_data, shown_or_shape, shown, picture}
use Rattle.packet_kinds.specs.Written.{Show}
use Rattle.packet_kinds.specs.Laws.{MessageFollows, PartShowsNothing, MessageHasBytes}

-- these windows and no fault
abbrev pub clear : List Window → Picture
clear windows = record { windows = windows; fault = None }

clear_windows : (a b : List Window) → clear a ≡ clear b → a ≡ b
clear_windows a b e = ap (λ (p : Picture). p.windows) e

shown_data_on : (place : ℕ) (windows goal : List Window) (o : Option (List Window)) (next more : List Window → Picture) (p : Picture)
    → ((after : List Window) → next after ≡ clear goal → more after ≡ p) → shown_or_data place windows o next ≡ clear goal → shown_or_data place windows o more ≡ p
shown_data_on place windows goal None next more p later e = absurd (let f = ap (λ (q : Picture). q.fault) e in cc)
shown_data_on place windows goal (Some after) next more p later e = later after e

shown_shape_on : (place : ℕ) (windows goal : List Window) (r : Result ToClient ℕ) (next more : List Window → Picture) (p : Picture)
    → ((after : List Window) → next after ≡ clear goal → more after ≡ p) → shown_or_shape place windows r next ≡ clear goal → shown_or_shape place windows r more ≡ p
shown_shape_on place windows goal (Err i) next more p later e = absurd (let f = ap (λ (q : Picture). q.fault) e in cc)
shown_shape_on place windows goal (Ok m) next more p later e = shown_data_on place windows goal (effect windows m) next more p later e

-- behind packets that are all shown the rest are shown
pub shown-append : (fault : Option Fault) (packets rest : List Packet) (windows goal : List Window) → shown None packets windows ≡ clear goal
    → shown fault (packets ++ rest) windows ≡ shown fault rest goal
shown-append fault [] rest windows goal e = ap (shown fault rest) (clear_windows windows goal e)
shown-append fault (p ∷ packets) rest windows goal e =
    shown_shape_on p.place windows goal (to_client p.value) (shown None packets) (shown fault (packets ++ rest)) (shown fault rest goal)
    (λ after here. shown-append fault packets rest after goal here) e

pub nothing_shown : (limit : ℕ) → picture limit [] ≡ clear []
unfolding picture read_on
nothing_shown limit = refl

pub nothing_shows : (limit : ℕ) → Show limit [] []
unfolding read_on
nothing_shows limit = record { clean = record { fault = refl; rest = refl }; shown = nothing_shown limit }

-- the packets of a clean stream are all shown
pub all_shown : (limit : ℕ) (sent : List ℕ) (windows : List Window) → Show limit sent windows → shown None (packets_of limit sent).packets [] ≡ clear windows
unfolding picture
all_shown limit sent windows h = ap (λ f. shown f (packets_of limit sent).packets []) (sym h.clean.fault) ∙ h.shown

pub picture_is : (limit : ℕ) (bytes : List ℕ) (s : Stream) → packets_of limit bytes ≡ s → picture limit bytes ≡ shown s.fault s.packets []
unfolding picture
picture_is limit bytes s e = ap (λ (t : Stream). shown t.fault t.packets []) e

read_as : (place : ℕ) (windows after : List Window) (r : Result ToClient ℕ) (m : ToClient) → r ≡ Ok m → effect windows m ≡ Some after
    → shown_or_shape place windows r (shown None []) ≡ clear after
read_as place windows after r m e does =
    ap (λ q. shown_or_shape place windows q (shown None [])) e ∙ ap (λ o. shown_or_data place windows o (shown None [])) does

pub message_follows : MessageFollows
message_follows limit sent bytes m windows after h is does =
    let s = packets_of limit sent in
    let new = with_packet s is.value is.chunk is.whole in
    let read : packets_of limit (sent ++ bytes) ≡ new =
    ap (λ b. packets_of limit (sent ++ b)) is.bytes_are ∙ written_follows limit sent is.value is.chunk is.whole is.written is.within is.fits h.clean in
    record {
      clean = record { fault = ap (λ (t : Stream). t.fault) read; rest = ap (λ (t : Stream). t.rest) read };
      shown = picture_is limit (sent ++ bytes) new read
          ∙ shown-append None s.packets _ [] windows (all_shown limit sent windows h)
          ∙ read_as _ windows after (to_client is.whole) m is.read does;
    }

pub part_shows_nothing : PartShowsNothing
part_shows_nothing limit sent bytes front more m windows h is parts some =
    let s = packets_of limit sent in
    let left : Stream = record s { rest = front } in
    let read : packets_of limit (sent ++ front) ≡ left =
    part_adds_none limit sent is.value is.chunk front more is.written is.within (sym is.bytes_are ∙ parts) some h.clean in
    picture_is limit (sent ++ front) left read ∙ ap (λ f. shown f s.packets []) h.clean.fault ∙ all_shown limit sent windows h

-- no spelling is empty
pub spelled_some : (v : Value) → 0 < length (spelled v)
spelled_some = induction (λ v. 0 < length (spelled v)) (λ _. Unit {0})
    (λ n. rw (spelled-Int n) (omega arith))
    (λ text. rw (spelled-Bytes text) (let n = length-append (decimal (length text)) (58 ∷ text) in omega arith))
    (λ vs _. rw (spelled-List vs) (omega arith))
    (λ ps _. rw (spelled-Dict ps) (omega arith))
    (λ _ _ _. tt)

pub packet_has_bytes : (v : Value) (chunk : Option Carried) → 8 < length (packet_bytes v chunk)
unfolding packet_bytes
packet_has_bytes v chunk = let n = length-append (chunk_bytes chunk) (frame_bytes 0 (spelled v)) in let some = spelled_some v in omega arith

pub message_has_bytes : MessageHasBytes
message_has_bytes limit bytes m is = let n = ap length is.bytes_are in let some = packet_has_bytes is.value is.chunk in omega arith
