-- What a content reads as.
use Rattle.std.proofs.Common.{◌≡◌, ◌≢◌, ◌⊎◌, inl, inr, ℕ, zero, suc, ◌+◌, ◌-◌, ◌<◌, ◌≤◌, true, false, List, [], ◌∷◌, length, take, drop, get_or, refl, ap, subst, ◌∙◌, arith}
use Rattle.std.specs.Prelude.{◌==◌, slice_range, if◌then◌else◌}
use Rattle.std.proofs.lemmas.Bool.Decides.{nat_tests}
use Rattle.std.proofs.lemmas.List.{length-drop, length-take-le}
use Rattle.bencode_values.specs.declared.value.Value.{Value}
use Rattle.bencode_values.specs.declared.reading.Read.{Read}
use Rattle.bencode_values.specs.declared.reading.Read.TheVariants as R
use Rattle.bencode_values.specs.declared.reading.Why.{Why}
use Rattle.bencode_values.specs.Reading.{Reads}
use Rattle.bencode_values.proofs.Completing.{AreBytes}
use Rattle.bencode_values.specs.Steps.{State, going, ended, feed, answer_of}
use Rattle.bencode_values.proofs.Contexts.{begin}
use Rattle.bencode_values.proofs.Runs.{Ran, ran}
use Rattle.bencode_values.proofs.Judged.{only, reads}
use Rattle.bencode_values.proofs.Top.{are_bytes_at}
use Rattle.packet_frames.specs.declared.fault.FrameFault.TheVariants as F
use Rattle.packet_frames.specs.Framing.{Chunk, wrong, read_of, put_all, main_judged}

pub bytes-drop : (n : ℕ) (xs : List ℕ) → AreBytes xs → AreBytes (drop n xs)
bytes-drop zero xs h = h
bytes-drop (suc n) [] h = tt
bytes-drop (suc n) (x ∷ xs) h = bytes-drop n xs h.1

pub bytes-take : (n : ℕ) (xs : List ℕ) → AreBytes xs → AreBytes (take n xs)
bytes-take zero xs h = tt
bytes-take (suc n) [] h = tt
bytes-take (suc n) (x ∷ xs) h = (h.0, bytes-take n xs h.1)

one_of : {A : Type 0} (a b c : A) → (a ≡ b) ⊎ (b ≡ c) → b ≢ c → a ≡ b
one_of a b c (inl is) other = is
one_of a b c (inr is) other = absurd (other is)

-- the content between two places reads as what is so of it
pub read_is : (bytes : List ℕ) (i j : ℕ) (answer : Read) → ((k : ℕ) → get_or bytes k 0 < 256) → Reads (slice_range bytes i j) answer → answer ≢ R.NoMemory → read_of (slice_range bytes i j) ≡ answer
unfolding read_of
read_is bytes i j answer small so ample =
    let content : AreBytes (slice_range bytes i j) = bytes-take (j - i) (drop i bytes) (bytes-drop i bytes (are_bytes_at bytes small)) in
    one_of _ answer R.NoMemory (only (slice_range bytes i j) answer content so) ample

module _ (at end : ℕ) (chunks : List Chunk) (content : List ℕ) (there : at + 8 ≤ end) where
  pub main-short : read_of content ≡ R.Short → main_judged at (end - (at + 8)) chunks (read_of content) ≡ wrong end F.Cut
  main-short e = ap (main_judged at (end - (at + 8)) chunks) e ∙ ap (λ p. wrong p F.Cut) (let back : at + 8 + (end - (at + 8)) ≡ end = omega arith in back)

  pub main-bad : (place : ℕ) (why : Why) → read_of content ≡ R.Bad place why → main_judged at (end - (at + 8)) chunks (read_of content) ≡ wrong (at + 8 + place) (F.Payload why)
  main-bad place why e = ap (main_judged at (end - (at + 8)) chunks) e

  pub main-extra : (v : Value) (used : ℕ) → at + 8 + used < end → read_of content ≡ R.Whole v used → main_judged at (end - (at + 8)) chunks (read_of content) ≡ wrong (at + 8 + used) F.Extra
  main-extra v used less e =
      let other : (used == end - (at + 8)) ≡ false = grind (arith, nat_tests) in
      ap (main_judged at (end - (at + 8)) chunks) e ∙ ap (λ b. if b then put_all at (at + 8 + (end - (at + 8))) chunks v else wrong (at + 8 + used) F.Extra) other

  pub main-whole : (v : Value) (used : ℕ) → end ≤ at + 8 + used → used ≤ end - (at + 8) → read_of content ≡ R.Whole v used → main_judged at (end - (at + 8)) chunks (read_of content) ≡ put_all at end chunks v
  main-whole v used all within e =
      let same : (used == end - (at + 8)) ≡ true = grind (arith, nat_tests) in
      let back : at + 8 + (end - (at + 8)) ≡ end = omega arith in
      ap (main_judged at (end - (at + 8)) chunks) e ∙ ap (λ b. if b then put_all at (at + 8 + (end - (at + 8))) chunks v else wrong (at + 8 + used) F.Extra) same
      ∙ ap (λ n. put_all at n chunks v) back

pub length-content : (bytes : List ℕ) (i j : ℕ) → i ≤ j → j ≤ length bytes → length (slice_range bytes i j) ≡ j - i
length-content bytes i j order within = length-take-le (j - i) (drop i bytes) (simp length-drop (omega arith))

no_want : (bytes : List ℕ) (s : State) → AreBytes bytes → feed begin bytes ≡ s → answer_of s ≢ R.NoMemory
no_want bytes (going n opens token) small e none = absurd (let h : R.Short ≡ R.NoMemory = none in cc)
no_want bytes (ended (R.Whole v n)) small e none = absurd (let h : R.Whole v n ≡ R.NoMemory = none in cc)
no_want bytes (ended R.Short) small e none = absurd (let h : R.Short ≡ R.NoMemory = none in cc)
no_want bytes (ended (R.Bad place why)) small e none = absurd (let h : R.Bad place why ≡ R.NoMemory = none in cc)
no_want bytes (ended R.NoMemory) small e none = absurd (subst (λ t. Ran t bytes) e (ran bytes small)).after

-- a content reads as the grammar says, and never as want of memory
pub content_reads : (content : List ℕ) → AreBytes content → Reads content (read_of content) × (read_of content ≢ R.NoMemory)
unfolding read_of
content_reads content small = (reads content small, no_want content (feed begin content) small refl)
