-- What the bytes begin with, when more of them come.
use Rattle.std.proofs.Common.{◌≡◌, ◌≢◌, ◌⊎◌, inl, inr, ℕ, zero, suc, ◌+◌, ◌<◌, ◌≤◌, List, [], ◌∷◌, ◌++◌, length, take, drop, refl, sym, ap, subst, ◌∙◌, arith}
use Rattle.std.proofs.lemmas.Bool.{cases_lt, cases_eq}
use Rattle.std.proofs.lemmas.List.{length-append, length-drop, take-append-le, drop-append-le}
use Rattle.packet_frames.specs.declared.head.Head.{Head}
use Rattle.packet_frames.specs.declared.head.Head.TheVariants as H
use Rattle.packet_frames.specs.Header.{head_of}
use Rattle.packet_frames.specs.Framing.{Chunk, part, read_of, main_judged, indexes, frames, begins}
use Rattle.packet_frames.proofs.Headers.{head-stays}
use Rattle.packet_frames.proofs.Frames.{frames-part, frames-wrong, frames-short, frames-main, frames-chunk, frames-none}

-- a chunk behind its header, and what comes behind it
abbrev with_next : ℕ → List Chunk → ℕ → ℕ → List ℕ → List Chunk
with_next at chunks index size xs = chunks ++ record { index = index; at = at; bytes = take size (drop 8 xs) } ∷ []

module _ (size : ℕ) (xs ys : List ℕ) (there : 8 + size ≤ length xs) where
  long : size ≤ length (drop 8 xs)
  long = let n = length-drop 8 xs in omega arith

  taken_stays : take size (drop 8 (xs ++ ys)) ≡ take size (drop 8 xs)
  taken_stays = ap (take size) (drop-append-le 8 xs ys (omega arith)) ∙ take-append-le size (drop 8 xs) ys long

  left_stays : drop size (drop 8 (xs ++ ys)) ≡ drop size (drop 8 xs) ++ ys
  left_stays = ap (drop size) (drop-append-le 8 xs ys (omega arith)) ∙ drop-append-le size (drop 8 xs) ys long

  more_there : 8 + size ≤ length (xs ++ ys)
  more_there = let n = length-append xs ys in omega arith

abbrev Stays : ℕ → ℕ → Type 0
Stays room limit = (at : ℕ) (chunks : List Chunk) (xs ys : List ℕ) → frames room limit at chunks xs ≢ part → frames room limit at chunks (xs ++ ys) ≡ frames room limit at chunks xs

stays_chunk : (room limit at : ℕ) (chunks : List Chunk) (xs ys : List ℕ) (index size : ℕ) → Stays room limit → head_of limit (indexes chunks) xs ≡ H.Whole index size
    → head_of limit (indexes chunks) (xs ++ ys) ≡ H.Whole index size → index ≢ 0 → 8 + size ≤ length xs → frames (suc room) limit at chunks xs ≢ part
    → frames (suc room) limit at chunks (xs ++ ys) ≡ frames (suc room) limit at chunks xs
stays_chunk room limit at chunks xs ys index size later e f other there some =
    let here = frames-chunk room limit at chunks xs index size e other there in
    frames-chunk room limit at chunks (xs ++ ys) index size f other (more_there size xs ys there)
    ∙ ap (λ bytes. frames room limit (at + 8 + size) (chunks ++ record { index = index; at = at; bytes = bytes } ∷ []) (drop size (drop 8 (xs ++ ys)))) (taken_stays size xs ys there)
    ∙ ap (frames room limit (at + 8 + size) (with_next at chunks index size xs)) (left_stays size xs ys there)
    ∙ later (at + 8 + size) (with_next at chunks index size xs) (drop size (drop 8 xs)) ys (λ none. some (here ∙ none))
    ∙ sym here

stays_whole : (room limit at : ℕ) (chunks : List Chunk) (xs ys : List ℕ) (index size : ℕ)
    → ((r : ℕ) → room ≡ suc r → Stays r limit) → head_of limit (indexes chunks) xs ≡ H.Whole index size → (length xs < 8 + size) ⊎ (8 + size ≤ length xs) → (index ≡ 0) ⊎ (index ≢ 0)
    → frames room limit at chunks xs ≢ part → frames room limit at chunks (xs ++ ys) ≡ frames room limit at chunks xs
stays_whole room limit at chunks xs ys index size later e (inl short) kind some = absurd (some (frames-short room limit at chunks xs index size e short))
stays_whole room limit at chunks xs ys index size later e (inr there) (inl main) some =
    let f = head-stays limit (indexes chunks) xs ys (λ p. (let q = sym e ∙ p in cc)) ∙ e in
    let zeroed = ap (λ i. H.Whole i size) main in
    frames-main room limit at chunks (xs ++ ys) size (f ∙ zeroed) (more_there size xs ys there)
    ∙ ap (λ content. main_judged at size chunks (read_of content)) (taken_stays size xs ys there)
    ∙ sym (frames-main room limit at chunks xs size (e ∙ zeroed) there)
stays_whole zero limit at chunks xs ys index size later e (inr there) (inr other) some = absurd (some (frames-none limit at chunks xs index size e other))
stays_whole (suc room) limit at chunks xs ys index size later e (inr there) (inr other) some =
    let f = head-stays limit (indexes chunks) xs ys (λ p. (let q = sym e ∙ p in cc)) ∙ e in
    stays_chunk room limit at chunks xs ys index size (later room refl) e f other there some

stays_by_head : (room limit at : ℕ) (chunks : List Chunk) (xs ys : List ℕ) (h : Head) → ((r : ℕ) → room ≡ suc r → Stays r limit) → head_of limit (indexes chunks) xs ≡ h
    → frames room limit at chunks xs ≢ part → frames room limit at chunks (xs ++ ys) ≡ frames room limit at chunks xs
stays_by_head room limit at chunks xs ys H.Part later e some = absurd (some (frames-part room limit at chunks xs e))
stays_by_head room limit at chunks xs ys (H.Wrong place kind) later e some =
    frames-wrong room limit at chunks (xs ++ ys) place kind (head-stays limit (indexes chunks) xs ys (λ p. (let q = sym e ∙ p in cc)) ∙ e)
    ∙ sym (frames-wrong room limit at chunks xs place kind e)
stays_by_head room limit at chunks xs ys (H.Whole index size) later e some =
    stays_whole room limit at chunks xs ys index size later e (cases_lt (length xs) (8 + size)) (cases_eq index 0) some

earlier : (limit : ℕ) (room r : ℕ) → suc room ≡ suc r → Stays room limit → Stays r limit
earlier limit room r same later = let e : room ≡ r = omega arith in subst (λ n. Stays n limit) e later

-- what is known of the bytes stays so when more come
pub frames-stays : (room limit : ℕ) → Stays room limit
frames-stays zero limit at chunks xs ys some = stays_by_head zero limit at chunks xs ys (head_of limit (indexes chunks) xs) (λ r e. absurd (let n : 0 ≡ suc r = e in omega arith)) refl some
frames-stays (suc room) limit at chunks xs ys some = stays_by_head (suc room) limit at chunks xs ys (head_of limit (indexes chunks) xs) (λ r e. earlier limit room r e (frames-stays room limit)) refl some

pub begins-stays : (limit : ℕ) (xs ys : List ℕ) → begins limit xs ≢ part → begins limit (xs ++ ys) ≡ begins limit xs
unfolding begins
begins-stays limit xs ys some = frames-stays 4 limit 0 [] xs ys some
