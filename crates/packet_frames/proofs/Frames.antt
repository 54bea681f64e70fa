-- Frames, one after another.
use Rattle.std.proofs.Common.{◌≡◌, ◌≢◌, ℕ, zero, suc, ◌+◌, ◌-◌, ◌*◌, ◌<◌, ◌≤◌, Bool, true, false, List, [], ◌∷◌, ◌++◌, length, take, drop, map, refl, sym, ap, ◌∙◌, arith}
use Rattle.std.specs.Prelude.{nat_lt, ◌==◌, All, slice_range, if◌then◌else◌, Result, Ok, Err, IfOk}
use Rattle.std.proofs.lemmas.Bool.Decides.{nat_tests}
use Rattle.std.proofs.lemmas.List.{length-append, length-drop, take-append-le, drop-append-le, drop-drop, append-nil}
use Rattle.std.proofs.Math.Seq.{take-length}
use Rattle.std.proofs.Math.Nat.{mul-le-mul_left}
use Rattle.packet_frames.proofs.Bounds.{head-part}
use Rattle.std.proofs.lemmas.List.Elements.{All-nil, All-push}
use Rattle.packet_frames.specs.declared.ahead.Ahead.{Ahead}
use Rattle.packet_frames.specs.declared.begun.Begun.{Begun}
use Rattle.packet_frames.specs.declared.begun.Begun.TheVariants as B
use Rattle.packet_frames.specs.declared.fault.FrameFault.{FrameFault}
use Rattle.packet_frames.specs.declared.head.Head.{Head}
use Rattle.packet_frames.specs.declared.head.Head.TheVariants as H
use Rattle.packet_frames.specs.Header.{head_of, head_at}
use Rattle.packet_frames.specs.Framing.{Chunk, Beginning, part, wrong, read_of, main_judged, content_judged, frame_judged, nothing_more, indexes, frames, begins}
use Rattle.packet_frames.specs.Begins.{chunk_in, LiesIn, Says, BeginsAs}
use Rattle.packet_frames.proofs.Headers.{head_is, head-front, head-whole, IsHeader, last_is_main}

-- the loop's meaning
pub record Goes (limit : ℕ) (bytes : List ℕ) (at : ℕ) (chunks : List Ahead) : Type 0 where
  pub room : ℕ
  pub few : room + length chunks ≡ 4
  pub within : at ≤ length bytes
  pub far : at ≤ (limit + 8) * length chunks
  pub lie : All (LiesIn bytes) chunks
  pub leads : (next : List ℕ) → begins limit (bytes ++ next) ≡ frames room limit at (map (chunk_in bytes) chunks) (drop at bytes ++ next)

pub frames-part : (room limit at : ℕ) (chunks : List Chunk) (xs : List ℕ) → head_of limit (indexes chunks) xs ≡ H.Part → frames room limit at chunks xs ≡ part
unfolding frames
frames-part zero limit at chunks xs e = ap (frame_judged at chunks xs nothing_more) e
frames-part (suc room) limit at chunks xs e = ap (frame_judged at chunks xs (frames room limit)) e

pub frames-wrong : (room limit at : ℕ) (chunks : List Chunk) (xs : List ℕ) (place : ℕ) (kind : FrameFault) → head_of limit (indexes chunks) xs ≡ H.Wrong place kind → frames room limit at chunks xs ≡ wrong (at + place) kind
unfolding frames
frames-wrong zero limit at chunks xs place kind e = ap (frame_judged at chunks xs nothing_more) e
frames-wrong (suc room) limit at chunks xs place kind e = ap (frame_judged at chunks xs (frames room limit)) e

content-short : (at : ℕ) (chunks : List Chunk) (index size : ℕ) (bytes : List ℕ) (next : ℕ → List Chunk → List ℕ → Beginning) → length bytes < size → content_judged at chunks index size bytes next ≡ part
content-short at chunks index size bytes next h = let short : nat_lt (length bytes) size ≡ true = grind (arith, nat_tests) in rw short refl

content-long : (at : ℕ) (chunks : List Chunk) (index size : ℕ) (bytes : List ℕ) (next : ℕ → List Chunk → List ℕ → Beginning) → size ≤ length bytes
    → content_judged at chunks index size bytes next ≡ (if index == 0 then main_judged at size chunks (read_of (take size bytes)) else next (at + 8 + size) (chunks ++ record { index = index; at = at; bytes = take size bytes } ∷ []) (drop size bytes))
content-long at chunks index size bytes next h = let long : nat_lt (length bytes) size ≡ false = grind (arith, nat_tests) in rw long refl

pub frames-short : (room limit at : ℕ) (chunks : List Chunk) (xs : List ℕ) (index size : ℕ) → head_of limit (indexes chunks) xs ≡ H.Whole index size → length xs < 8 + size → frames room limit at chunks xs ≡ part
unfolding frames
frames-short zero limit at chunks xs index size e h =
    let header = head-whole limit (indexes chunks) xs index size e in let long = header.long in
    ap (frame_judged at chunks xs nothing_more) e ∙ content-short at chunks index size (drop 8 xs) nothing_more (simp length-drop (omega arith))
frames-short (suc room) limit at chunks xs index size e h =
    let header = head-whole limit (indexes chunks) xs index size e in let long = header.long in
    ap (frame_judged at chunks xs (frames room limit)) e ∙ content-short at chunks index size (drop 8 xs) (frames room limit) (simp length-drop (omega arith))

pub frames-main : (room limit at : ℕ) (chunks : List Chunk) (xs : List ℕ) (size : ℕ) → head_of limit (indexes chunks) xs ≡ H.Whole 0 size → 8 + size ≤ length xs → frames room limit at chunks xs ≡ main_judged at size chunks (read_of (take size (drop 8 xs)))
unfolding frames
frames-main zero limit at chunks xs size e h = ap (frame_judged at chunks xs nothing_more) e ∙ content-long at chunks 0 size (drop 8 xs) nothing_more (simp length-drop (omega arith))
frames-main (suc room) limit at chunks xs size e h = ap (frame_judged at chunks xs (frames room limit)) e ∙ content-long at chunks 0 size (drop 8 xs) (frames room limit) (simp length-drop (omega arith))

pub frames-chunk : (room limit at : ℕ) (chunks : List Chunk) (xs : List ℕ) (index size : ℕ) → head_of limit (indexes chunks) xs ≡ H.Whole index size → index ≢ 0 → 8 + size ≤ length xs
    → frames (suc room) limit at chunks xs ≡ frames room limit (at + 8 + size) (chunks ++ record { index = index; at = at; bytes = take size (drop 8 xs) } ∷ []) (drop size (drop 8 xs))
unfolding frames
frames-chunk room limit at chunks xs index size e other h =
    let ahead : (index == 0) ≡ false = grind (arith, nat_tests) in
    ap (frame_judged at chunks xs (frames room limit)) e ∙ content-long at chunks index size (drop 8 xs) (frames room limit) (simp length-drop (omega arith))
    ∙ ap (λ b. if b then main_judged at size chunks (read_of (take size (drop 8 xs))) else frames room limit (at + 8 + size) (chunks ++ record { index = index; at = at; bytes = take size (drop 8 xs) } ∷ []) (drop size (drop 8 xs))) ahead

pub indexes_in : (bytes : List ℕ) (chunks : List Ahead) → indexes (map (chunk_in bytes) chunks) ≡ map (λ c. c.index) chunks
indexes_in bytes [] = refl
indexes_in bytes (c ∷ cs) = ap (λ is. c.index ∷ is) (indexes_in bytes cs)

pub map_push : {A B : Type 0} (f : A → B) (xs : List A) (x : A) → map f (xs ++ x ∷ []) ≡ map f xs ++ f x ∷ []
map_push f [] x = refl
map_push f (y ∷ xs) x = ap (λ ys. f y ∷ ys) (map_push f xs x)

pub length_of_map : {A B : Type 0} (f : A → B) (xs : List A) → length (map f xs) ≡ length xs
length_of_map f [] = refl
length_of_map f (x ∷ xs) = ap suc (length_of_map f xs)

pub content_is : (bytes : List ℕ) (at size : ℕ) → take size (drop 8 (drop at bytes)) ≡ slice_range bytes (at + 8) (at + 8 + size)
content_is bytes at size = let n : at + 8 + size - (at + 8) ≡ size = omega arith in ap (take size) (drop-drop 8 at bytes) ∙ ap (λ k. take k (drop (at + 8) bytes)) (sym n)

pub goes_start : (limit : ℕ) (bytes : List ℕ) → Goes limit bytes 0 []
unfolding begins
goes_start limit bytes = record { room = 4; few = refl; within = omega arith; far = omega arith; lie = All-nil (LiesIn bytes); leads = λ next. refl }

module _ (limit : ℕ) (bytes : List ℕ) (at : ℕ) (chunks : List Ahead) (goes : Goes limit bytes at chunks) where
  abbrev ahead : List Chunk
  ahead = map (chunk_in bytes) chunks

  goes_here : begins limit bytes ≡ frames goes.room limit at ahead (drop at bytes)
  goes_here = ap (begins limit) (sym (append-nil bytes)) ∙ goes.leads [] ∙ ap (frames goes.room limit at ahead) (append-nil (drop at bytes))

  says : (xs : List ℕ) (h : Head) → h ≡ head_at limit (map (λ c. c.index) chunks) xs → head_of limit (indexes ahead) xs ≡ h
  says xs h e = ap (λ given. head_of limit given xs) (indexes_in bytes chunks) ∙ head_is limit (map (λ c. c.index) chunks) xs ∙ sym e

  pub goes_part : H.Part ≡ head_at limit (map (λ c. c.index) chunks) (drop at bytes) → (next : List ℕ) → length next < 1 → begins limit (bytes ++ next) ≡ part
  goes_part e [] short = ap (begins limit) (append-nil bytes) ∙ goes_here ∙ frames-part goes.room limit at ahead (drop at bytes) (says (drop at bytes) H.Part e)
  goes_part e (b ∷ next) short = absurd (omega arith)

  pub goes_least : H.Part ≡ head_at limit (map (λ c. c.index) chunks) (drop at bytes) → length bytes + 1 ≤ 5 * (limit + 8)
  goes_least e =
      let eight = head-part limit (indexes ahead) (drop at bytes) (says (drop at bytes) H.Part e) in let there = length-drop at bytes in
      let before = goes.far in let within = goes.within in
      let most : (limit + 8) * length chunks ≤ (limit + 8) * 4 = mul-le-mul_left (limit + 8) (let few = goes.few in omega arith) in
      omega arith

  pub goes_wrong : (place : ℕ) (kind : FrameFault) → H.Wrong place kind ≡ head_at limit (map (λ c. c.index) chunks) (drop at bytes) → begins limit bytes ≡ wrong (at + place) kind
  goes_wrong place kind e = goes_here ∙ frames-wrong goes.room limit at ahead (drop at bytes) place kind (says (drop at bytes) (H.Wrong place kind) e)

  module _ (index size : ℕ) (e : H.Whole index size ≡ head_at limit (map (λ c. c.index) chunks) (drop at bytes)) where
    header : IsHeader limit (indexes ahead) (drop at bytes) index size
    header = head-whole limit (indexes ahead) (drop at bytes) index size (says (drop at bytes) (H.Whole index size) e)

    further : (next : List ℕ) → head_of limit (indexes ahead) (drop at bytes ++ next) ≡ H.Whole index size
    further next = head-front limit (indexes ahead) (drop at bytes) next header.long ∙ says (drop at bytes) (H.Whole index size) e

    pub goes_short : (next : List ℕ) → length bytes - at - 8 < size → length next < size - (length bytes - at - 8) → begins limit (bytes ++ next) ≡ part
    goes_short next short few =
        let within = goes.within in let eight = header.long in
        goes.leads next ∙ frames-short goes.room limit at ahead (drop at bytes ++ next) index size (further next)
        (let there = length-drop at bytes in let all = length-append (drop at bytes) next in omega arith)

    pub goes_room : length bytes - at - 8 < size → length bytes + (size - (length bytes - at - 8)) ≤ 5 * (limit + 8)
    goes_room short =
        let within = goes.within in let eight = header.long in let there = length-drop at bytes in
        let small = header.small in let before = goes.far in
        let most : (limit + 8) * length chunks ≤ (limit + 8) * 4 = mul-le-mul_left (limit + 8) (let few = goes.few in omega arith) in
        omega arith

    pub goes_main : index ≡ 0 → size ≤ length bytes - at - 8 → begins limit bytes ≡ main_judged at (at + 8 + size - (at + 8)) ahead (read_of (slice_range bytes (at + 8) (at + 8 + size)))
    goes_main main long =
        let there = length-drop at bytes in let eight = header.long in
        let back : size ≡ at + 8 + size - (at + 8) = omega arith in
        goes_here ∙ frames-main goes.room limit at ahead (drop at bytes) size (says (drop at bytes) (H.Whole index size) e ∙ ap (λ i. H.Whole i size) main) (omega arith)
        ∙ ap (λ content. main_judged at size ahead (read_of content)) (content_is bytes at size)
        ∙ ap (λ n. main_judged at n ahead (read_of (slice_range bytes (at + 8) (at + 8 + size)))) back

    abbrev newest : Ahead
    newest = record { index = index; at = at; end = at + 8 + size }

    goes_on : (room : ℕ) → index ≢ 0 → size ≤ length bytes - at - 8 → room + length chunks ≡ 4
        → ((next : List ℕ) → begins limit (bytes ++ next) ≡ frames room limit at ahead (drop at bytes ++ next)) → Goes limit bytes (at + 8 + size) (chunks ++ newest ∷ [])
    goes_on zero other long few leads = absurd (other (last_is_main index (indexes ahead) header.may (let n = length_of_map (λ (c : Chunk). c.index) ahead in let m = length_of_map (chunk_in bytes) chunks in omega arith)))
    goes_on (suc room) other long few leads =
        let there = length-drop at bytes in let eight = header.long in
        let content : size ≤ length (drop 8 (drop at bytes)) = let n = length-drop 8 (drop at bytes) in omega arith in
        record {
          room = room;
          few = let n = length-append chunks (newest ∷ []) in omega arith;
          within = omega arith;
          far = let n = length-append chunks (newest ∷ []) in let small = header.small in let before = goes.far in omega (arith, ap (λ k. (limit + 8) * k) n);
          lie = All-push (LiesIn bytes) chunks newest goes.lie (record { header = omega arith; content = omega arith });
          leads = λ next.
              let all = length-append (drop at bytes) next in
              let behind : drop 8 (drop at bytes ++ next) ≡ drop 8 (drop at bytes) ++ next = drop-append-le 8 (drop at bytes) next eight in
              let taken : take size (drop 8 (drop at bytes ++ next)) ≡ slice_range bytes (at + 8) (at + 8 + size) =
              ap (take size) behind ∙ take-append-le size (drop 8 (drop at bytes)) next content ∙ content_is bytes at size in
              let left : drop size (drop 8 (drop at bytes ++ next)) ≡ drop (at + 8 + size) bytes ++ next =
              ap (drop size) behind ∙ drop-append-le size (drop 8 (drop at bytes)) next content ∙ ap (λ xs. xs ++ next) (ap (drop size) (drop-drop 8 at bytes) ∙ drop-drop size (at + 8) bytes) in
              leads next ∙ frames-chunk room limit at ahead (drop at bytes ++ next) index size (further next) other (omega arith)
              ∙ ap (λ xs. frames room limit (at + 8 + size) (ahead ++ record { index = index; at = at; bytes = xs } ∷ []) (drop size (drop 8 (drop at bytes ++ next)))) taken
              ∙ ap (frames room limit (at + 8 + size) (ahead ++ chunk_in bytes newest ∷ [])) left
              ∙ ap (λ cs. frames room limit (at + 8 + size) cs (drop (at + 8 + size) bytes ++ next)) (sym (map_push (chunk_in bytes) chunks newest));
        }

    pub goes_chunk : index ≢ 0 → size ≤ length bytes - at - 8 → Goes limit bytes (at + 8 + size) (chunks ++ newest ∷ [])
    goes_chunk other long = goes_on goes.room other long goes.few goes.leads

begins_as : (limit : ℕ) (bytes : List ℕ) (b : Beginning) (found : Begun) → begins limit bytes ≡ b → Says b found → BeginsAs limit bytes found
begins_as limit bytes b (B.Part more) e h = absurd h
begins_as limit bytes b (B.Whole at v size) e h = e ∙ h
begins_as limit bytes b (B.Wrong place kind) e h = e ∙ h

-- what a whole content makes of the bytes is what they begin with
pub begins_from : {E : Type 0} (limit : ℕ) (bytes : List ℕ) (b : Beginning) (r : Result Begun E) → begins limit bytes ≡ b → IfOk r (Says b) → IfOk r (BeginsAs limit bytes)
begins_from limit bytes b (Ok found) e h = begins_as limit bytes b found e h
begins_from limit bytes b (Err error) e h = tt

pub to_end : (bytes : List ℕ) (at : ℕ) → slice_range bytes at (length bytes) ≡ drop at bytes
to_end bytes at = ap (λ n. take n (drop at bytes)) (sym (length-drop at bytes)) ∙ take-length (drop at bytes)

-- what a header says, over the bytes from its place to the end
pub heard : (limit : ℕ) (bytes : List ℕ) (at : ℕ) (seen chunks : List Ahead) (h : Head) → seen ≡ chunks
    → h ≡ head_at limit (map (λ c. c.index) seen) (slice_range bytes at (length bytes)) → h ≡ head_at limit (map (λ c. c.index) chunks) (drop at bytes)
heard limit bytes at seen chunks h same e = e ∙ ap (λ cs. head_at limit (map (λ (c : Ahead). c.index) cs) (slice_range bytes at (length bytes))) same
    ∙ ap (head_at limit (map (λ (c : Ahead). c.index) chunks)) (to_end bytes at)

-- behind the last chunk that may come there is only a main packet
pub frames-none : (limit at : ℕ) (chunks : List Chunk) (xs : List ℕ) (index size : ℕ) → head_of limit (indexes chunks) xs ≡ H.Whole index size → index ≢ 0 → frames 0 limit at chunks xs ≡ part
unfolding frames
frames-none limit at chunks xs index size e other =
    let ahead : (index == 0) ≡ false = grind (arith, nat_tests) in
    ap (frame_judged at chunks xs nothing_more) e ∙ none_by_size (nat_lt (length (drop 8 xs)) size) ahead
  where
    none_by_size : (b : Bool) → (index == 0) ≡ false → (if b then part else if index == 0 then main_judged at size chunks (read_of (take size (drop 8 xs))) else part) ≡ part
    none_by_size true h = refl
    none_by_size false h = ap (λ b. if b then main_judged at size chunks (read_of (take size (drop 8 xs))) else part) h
