-- Where a packet ends.
use Rattle.std.proofs.Common.{◌≡◌, ◌≢◌, ◌⊎◌, inl, inr, ℕ, zero, suc, ◌+◌, ◌<◌, ◌≤◌, Bool, true, false, List, [], ◌∷◌, ◌++◌, length, take, drop, refl, sym, ap, subst, ◌∙◌, arith, append_assoc}
use Rattle.std.specs.Prelude.{◌==◌, Option, Some, None, if◌then◌else◌}
use Rattle.std.proofs.lemmas.Bool.{cases_lt, cases_eq}
use Rattle.std.proofs.lemmas.List.{length-append, length-drop, length-take-le, take-append-le, drop-append-le, drop-drop, take-append-drop, append-nil}
use Rattle.std.proofs.Math.Seq.{drop-append_seam, take-append_seam}
use Rattle.bencode_values.specs.declared.value.Value.{Value}
use Rattle.bencode_values.specs.declared.reading.Read.{Read}
use Rattle.bencode_values.specs.declared.reading.Read.TheVariants as R
use Rattle.packet_frames.specs.declared.fault.FrameFault.TheVariants as F
use Rattle.packet_frames.specs.declared.head.Head.{Head}
use Rattle.packet_frames.specs.declared.head.Head.TheVariants as H
use Rattle.packet_frames.specs.Header.{head_of}
use Rattle.packet_frames.specs.Framing.{Chunk, Beginning, part, whole, wrong, put_in, put_or_wrong, put_all, read_of, main_judged, indexes, frames, begins}
use Rattle.packet_frames.proofs.Headers.{head-front}
use Rattle.packet_frames.proofs.Frames.{frames-part, frames-wrong, frames-short, frames-main, frames-chunk, frames-none}

-- the bytes of the packet, and that it is there however they go on
pub record Front (room limit at : ℕ) (chunks : List Chunk) (xs : List ℕ) (place : ℕ) (v : Value) (size : ℕ) : Type 0 where
  pub front : List ℕ
  pub rest : List ℕ
  pub parts : xs ≡ front ++ rest
  pub sized : at + length front ≡ size
  pub holds : (ys : List ℕ) → frames room limit at chunks (front ++ ys) ≡ whole place v size

put_or-size : (c : Chunk) (o : Option Value) (next : Value → Beginning) (place : ℕ) (w : Value) (n : ℕ) (claim : Type 0)
    → ((v : Value) → next v ≡ whole place w n → claim) → put_or_wrong c o next ≡ whole place w n → claim
put_or-size c None next place w n claim h e = absurd cc
put_or-size c (Some v) next place w n claim h e = h v e

put_all-size : (at size : ℕ) (cs : List Chunk) (v : Value) (place : ℕ) (w : Value) (n : ℕ) → put_all at size cs v ≡ whole place w n → n ≡ size
put_all-size at size [] v place w n e = cc
put_all-size at size (c ∷ cs) v place w n e = put_or-size c (put_in v c.index c.bytes) (put_all at size cs) place w n (n ≡ size) (λ u f. put_all-size at size cs u place w n f) e

whole_or_extra : (b : Bool) (x : Beginning) (at : ℕ) (place : ℕ) (w : Value) (n : ℕ) → (if b then x else wrong at F.Extra) ≡ whole place w n → x ≡ whole place w n
whole_or_extra true x at place w n e = e
whole_or_extra false x at place w n e = absurd cc

main-size : (at size : ℕ) (chunks : List Chunk) (r : Read) (place : ℕ) (w : Value) (n : ℕ) → main_judged at size chunks r ≡ whole place w n → n ≡ at + 8 + size
main-size at size chunks (R.Whole v used) place w n e = put_all-size at (at + 8 + size) chunks v place w n (whole_or_extra (used == size) _ _ place w n e)
main-size at size chunks R.Short place w n e = absurd cc
main-size at size chunks (R.Bad k why) place w n e = absurd cc
main-size at size chunks R.NoMemory place w n e = absurd cc

module _ (size : ℕ) (xs : List ℕ) (there : 8 + size ≤ length xs) where
  abbrev frame : List ℕ
  frame = take (8 + size) xs

  length_frame : length frame ≡ 8 + size
  length_frame = length-take-le (8 + size) xs there

  frame_parts : xs ≡ frame ++ drop (8 + size) xs
  frame_parts = sym (take-append-drop (8 + size) xs)

  frame_content : (ys : List ℕ) → take size (drop 8 (frame ++ ys)) ≡ take size (drop 8 xs)
  frame_content ys =
      let n = length_frame in let m = length-drop 8 frame in
      ap (take size) (drop-append-le 8 frame ys (omega arith)) ∙ take-append-le size (drop 8 frame) ys (omega arith)
      ∙ sym (ap (λ zs. take size (drop 8 zs)) frame_parts ∙ ap (take size) (drop-append-le 8 frame (drop (8 + size) xs) (omega arith)) ∙ take-append-le size (drop 8 frame) (drop (8 + size) xs) (omega arith))

  frame_behind : (ys : List ℕ) → drop size (drop 8 (frame ++ ys)) ≡ ys
  frame_behind ys = drop-drop size 8 (frame ++ ys) ∙ ap (λ n. drop n (frame ++ ys)) (sym length_frame) ∙ drop-append_seam frame ys

  frame_head : (limit : ℕ) (given ys : List ℕ) (h : Head) → head_of limit given xs ≡ h → head_of limit given (frame ++ ys) ≡ h
  frame_head limit given ys h e =
      let n = length_frame in
      head-front limit given frame ys (omega arith) ∙ sym (head-front limit given frame (drop (8 + size) xs) (omega arith)) ∙ ap (head_of limit given) (sym frame_parts) ∙ e

  frame_there : (ys : List ℕ) → 8 + size ≤ length (frame ++ ys)
  frame_there ys = let n = length_frame in let m = length-append frame ys in omega arith

abbrev HasFront : ℕ → ℕ → Type 0
HasFront room limit = (at : ℕ) (chunks : List Chunk) (xs : List ℕ) (place : ℕ) (v : Value) (size : ℕ) → frames room limit at chunks xs ≡ whole place v size → Front room limit at chunks xs place v size

part_not_whole : (place : ℕ) (v : Value) (size : ℕ) → part ≡ whole place v size → ⊥
part_not_whole place v size e = cc

main_front : (room limit at : ℕ) (chunks : List Chunk) (xs : List ℕ) (n place : ℕ) (v : Value) (size : ℕ) → head_of limit (indexes chunks) xs ≡ H.Whole 0 n → 8 + n ≤ length xs
    → frames room limit at chunks xs ≡ whole place v size → Front room limit at chunks xs place v size
main_front room limit at chunks xs n place v size e there is =
    let judged = sym (frames-main room limit at chunks xs n e there) ∙ is in
    let ends = main-size at n chunks (read_of (take n (drop 8 xs))) place v size judged in
    let long = length_frame n xs there in
    record {
      front = take (8 + n) xs;
      rest = drop (8 + n) xs;
      parts = frame_parts n xs there;
      sized = omega arith;
      holds = λ ys. frames-main room limit at chunks (take (8 + n) xs ++ ys) n (frame_head n xs there limit (indexes chunks) ys (H.Whole 0 n) e) (frame_there n xs there ys)
          ∙ ap (λ content. main_judged at n chunks (read_of content)) (frame_content n xs there ys) ∙ judged;
    }

chunk_front : (room limit at : ℕ) (chunks : List Chunk) (xs : List ℕ) (index n place : ℕ) (v : Value) (size : ℕ) → HasFront room limit → head_of limit (indexes chunks) xs ≡ H.Whole index n → index ≢ 0
    → 8 + n ≤ length xs → frames (suc room) limit at chunks xs ≡ whole place v size → Front (suc room) limit at chunks xs place v size
chunk_front room limit at chunks xs index n place v size later e other there is =
    let cs : List Chunk = chunks ++ record { index = index; at = at; bytes = take n (drop 8 xs) } ∷ [] in
    let inner = later (at + 8 + n) cs (drop n (drop 8 xs)) place v size (sym (frames-chunk room limit at chunks xs index n e other there) ∙ is) in
    let long = length_frame n xs there in
    let both = length-append (take (8 + n) xs) inner.front in
    let ends = inner.sized in
    record {
      front = take (8 + n) xs ++ inner.front;
      rest = inner.rest;
      parts = frame_parts n xs there ∙ ap (λ zs. take (8 + n) xs ++ zs) (sym (drop-drop n 8 xs) ∙ inner.parts) ∙ sym (append_assoc (take (8 + n) xs) inner.front inner.rest);
      sized = omega arith;
      holds = λ ys. ap (frames (suc room) limit at chunks) (append_assoc (take (8 + n) xs) inner.front ys)
          ∙ frames-chunk room limit at chunks (take (8 + n) xs ++ (inner.front ++ ys)) index n (frame_head n xs there limit (indexes chunks) (inner.front ++ ys) (H.Whole index n) e) other (frame_there n xs there (inner.front ++ ys))
          ∙ ap (λ bytes. frames room limit (at + 8 + n) (chunks ++ record { index = index; at = at; bytes = bytes } ∷ []) (drop n (drop 8 (take (8 + n) xs ++ (inner.front ++ ys))))) (frame_content n xs there (inner.front ++ ys))
          ∙ ap (frames room limit (at + 8 + n) cs) (frame_behind n xs there (inner.front ++ ys))
          ∙ inner.holds ys;
    }

front_whole : (room limit at : ℕ) (chunks : List Chunk) (xs : List ℕ) (index n place : ℕ) (v : Value) (size : ℕ)
    → ((r : ℕ) → room ≡ suc r → HasFront r limit) → head_of limit (indexes chunks) xs ≡ H.Whole index n → (length xs < 8 + n) ⊎ (8 + n ≤ length xs) → (index ≡ 0) ⊎ (index ≢ 0)
    → frames room limit at chunks xs ≡ whole place v size → Front room limit at chunks xs place v size
front_whole room limit at chunks xs index n place v size later e (inl short) kind is = absurd (part_not_whole place v size (sym (frames-short room limit at chunks xs index n e short) ∙ is))
front_whole room limit at chunks xs index n place v size later e (inr there) (inl main) is = main_front room limit at chunks xs n place v size (e ∙ ap (λ i. H.Whole i n) main) there is
front_whole zero limit at chunks xs index n place v size later e (inr there) (inr other) is = absurd (part_not_whole place v size (sym (frames-none limit at chunks xs index n e other) ∙ is))
front_whole (suc room) limit at chunks xs index n place v size later e (inr there) (inr other) is = chunk_front room limit at chunks xs index n place v size (later room refl) e other there is

front_by_head : (room limit at : ℕ) (chunks : List Chunk) (xs : List ℕ) (place : ℕ) (v : Value) (size : ℕ) (h : Head) → ((r : ℕ) → room ≡ suc r → HasFront r limit) → head_of limit (indexes chunks) xs ≡ h
    → frames room limit at chunks xs ≡ whole place v size → Front room limit at chunks xs place v size
front_by_head room limit at chunks xs place v size H.Part later e is = absurd (part_not_whole place v size (sym (frames-part room limit at chunks xs e) ∙ is))
front_by_head room limit at chunks xs place v size (H.Wrong k kind) later e is = absurd (let f = sym (frames-wrong room limit at chunks xs k kind e) ∙ is in cc)
front_by_head room limit at chunks xs place v size (H.Whole index n) later e is = front_whole room limit at chunks xs index n place v size later e (cases_lt (length xs) (8 + n)) (cases_eq index 0) is

earlier : (limit room r : ℕ) → suc room ≡ suc r → HasFront room limit → HasFront r limit
earlier limit room r same later = let e : room ≡ r = omega arith in subst (λ n. HasFront n limit) e later

has_front : (room limit : ℕ) → HasFront room limit
has_front zero limit at chunks xs place v size is = front_by_head zero limit at chunks xs place v size (head_of limit (indexes chunks) xs) (λ r e. absurd (let n : 0 ≡ suc r = e in omega arith)) refl is
has_front (suc room) limit at chunks xs place v size is = front_by_head (suc room) limit at chunks xs place v size (head_of limit (indexes chunks) xs) (λ r e. earlier limit room r e (has_front room limit)) refl is

-- a packet has no more bytes than there are, and they alone are this packet
pub record IsPacketFront (limit : ℕ) (xs : List ℕ) (place : ℕ) (v : Value) (size : ℕ) : Type 0 where
  pub within : size ≤ length xs
  pub alone : begins limit (take size xs) ≡ whole place v size

pub begins-front : (limit : ℕ) (xs : List ℕ) (place : ℕ) (v : Value) (size : ℕ) → begins limit xs ≡ whole place v size → IsPacketFront limit xs place v size
unfolding begins
begins-front limit xs place v size is =
    let found = has_front 4 limit 0 [] xs place v size is in
    let ends : length found.front ≡ size = let e = found.sized in omega arith in
    let all = length-append found.front found.rest in
    let same = ap length found.parts in
    let taken : take size xs ≡ found.front = ap (take size) found.parts ∙ ap (λ n. take n (found.front ++ found.rest)) (sym ends) ∙ take-append_seam found.front found.rest in
    record { within = omega arith; alone = ap (frames 4 limit 0 []) (taken ∙ sym (append-nil found.front)) ∙ found.holds [] }
