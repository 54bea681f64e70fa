-- The answer of the steps is the answer of the grammar, and no other is.
use Rattle.std.proofs.Common.{◌≡◌, ℕ, suc, zero, ◌+◌, ◌<◌, ◌⊎◌, inl, inr, List, [], ◌∷◌, ◌++◌, refl, sym, ap, subst, ◌∙◌, length, take, drop, get_or, arith}
use Rattle.std.proofs.lemmas.List.{length-take-le, length-drop, take-append-drop}
use Rattle.std.proofs.lemmas.Bool.Decides.{leb_tells}
use Rattle.bencode_values.specs.declared.value.Value.{Value}
use Rattle.bencode_values.specs.declared.reading.Read.{Read}
use Rattle.bencode_values.specs.declared.reading.Read.TheVariants as R
use Rattle.bencode_values.specs.declared.reading.Why.{Why}
use Rattle.bencode_values.specs.declared.reading.Why.TheVariants as W
use Rattle.bencode_values.specs.Reading.{IsProperPrefix, BeginsWith, IsFirstDead, IsReason, Reads}
use Rattle.bencode_values.specs.Steps.{State, going, ended, feed, answer_of}
use Rattle.bencode_values.proofs.Feeding.{feed-append, feed-ended}
use Rattle.bencode_values.proofs.Completing.{AreBytes}
use Rattle.bencode_values.proofs.Contexts.{begin, Refused, leading_refused, minus_refused, range_refused, length_refused, depth_refused, key_refused}
use Rattle.bencode_values.proofs.Runs.{Ran, ran, whole_reads, part_reads, part_goes, whole_found, front_part, bad_reads, take_less}

answered : (bytes : List ℕ) (s : State) → AreBytes bytes → feed begin bytes ≡ s → Reads bytes (answer_of s)
answered bytes (going n opens token) small e = part_reads bytes n opens token small e
answered bytes (ended (R.Whole v n)) small e = whole_reads bytes v n small e
answered bytes (ended R.Short) small e = absurd (subst (λ t. Ran t bytes) e (ran bytes small)).after
answered bytes (ended (R.Bad place why)) small e = bad_reads bytes place why small e
answered bytes (ended R.NoMemory) small e = tt

-- what the steps answer is so
pub reads : (bytes : List ℕ) → AreBytes bytes → Reads bytes (answer_of (feed begin bytes))
reads bytes small = answered bytes (feed begin bytes) small refl

goes_short : (bytes : List ℕ) (s : State) → AreBytes bytes → IsProperPrefix bytes → feed begin bytes ≡ s → answer_of s ≡ R.Short
goes_short bytes (going n opens token) small h e = refl
goes_short bytes (ended answer) small h e = absurd (part_goes bytes answer small h e)

split_at : (bytes : List ℕ) (place : ℕ) → place < length bytes → (take place bytes ++ get_or bytes place 0 ∷ []) ++ drop (suc place) bytes ≡ bytes
split_at [] place h = absurd (omega arith)
split_at (b ∷ bytes) zero h = refl
split_at (b ∷ bytes) (suc place) h = ap (λ l. b ∷ l) (split_at bytes place (omega arith))

-- a refused byte ends reading there
refused_answer : (bytes : List ℕ) (place : ℕ) (why : Why) → place < length bytes → Refused (take place bytes) (get_or bytes place 0) why → feed begin bytes ≡ ended (R.Bad place why)
refused_answer bytes place why within h =
    let split : (take place bytes ++ get_or bytes place 0 ∷ []) ++ drop (suc place) bytes ≡ bytes = split_at bytes place within in
    ap (feed begin) (sym split) ∙ feed-append begin (take place bytes ++ get_or bytes place 0 ∷ []) (drop (suc place) bytes) ∙ ap (λ s. feed s (drop (suc place) bytes)) h
    ∙ feed-ended _ (drop (suc place) bytes) ∙ ap (λ k. ended (R.Bad k why)) (length-take-le place bytes (omega arith))

-- the first dead place is one
one_place : (bytes : List ℕ) (m n : ℕ) → IsFirstDead bytes m → IsFirstDead bytes n → m ≡ n
one_place bytes m n a b = elim (leb_tells m n) [
  | inl le ↦ elim (leb_tells n m) [ inl ge ↦ (let x = le.1 in let y = ge.1 in omega arith) | inr gt ↦ absurd (b.least m gt.1 a.dead) ]
  | inr gt ↦ absurd (a.least n gt.1 b.dead)
]

-- bytes with a dead front begin with no spelling
whole_dead : (bytes : List ℕ) (place : ℕ) (v : Value) (n : ℕ) → AreBytes bytes → IsFirstDead bytes place → BeginsWith bytes v n → ⊥
whole_dead bytes place v n small dead h =
    let last = dead.within in let most = h.within in
    elim (leb_tells n (place + 1)) [
      | inl le ↦ dead.dead.holds v n (record {
        limits = h.limits;
        within = let less = le.1 in let count = length-take-le (place + 1) bytes (omega arith) in omega arith;
        spells = take_less bytes n (place + 1) le.1 ∙ h.spells;
      })
      | inr gt ↦
          let less = gt.1 in
          let part : take (place + 1) (take n bytes) ≡ take (place + 1) bytes = take_less bytes (place + 1) n (omega arith) in
          let count : length (take n bytes) ≡ n = length-take-le n bytes most in
          let left = length-drop (place + 1) (take n bytes) in
          dead.dead.begins (
            v,
            drop (place + 1) (take n bytes),
            h.limits,
            (λ empty. (let none = ap length empty in omega arith)),
            sym h.spells ∙ sym (take-append-drop (place + 1) (take n bytes)) ∙ ap (λ l. l ++ drop (place + 1) (take n bytes)) part,
          )
    ]

-- a letter is no other reason
other_letter : (before : List ℕ) (b : ℕ) (why : Why) → IsReason before b W.Letter → IsReason before b why → why ≡ W.Letter
other_letter before b W.Leading h g = absurd (h.0 g)
other_letter before b W.MinusZero h g = absurd (h.1 g)
other_letter before b W.Range h g = absurd (h.2 g)
other_letter before b W.Letter h g = refl
other_letter before b W.Depth h g = absurd (h.4 g)
other_letter before b W.Length h g = absurd (h.3 g)
other_letter before b W.Key h g = absurd (h.5 g)

letter_answer : (bytes : List ℕ) (place : ℕ) (s : State) → AreBytes bytes → IsFirstDead bytes place → IsReason (take place bytes) (get_or bytes place 0) W.Letter → feed begin bytes ≡ s
    → answer_of s ≡ R.Bad place W.Letter
letter_answer bytes place (going n opens token) small dead h e = absurd (dead.dead.begins (front_part bytes (place + 1) (part_reads bytes n opens token small e)))
letter_answer bytes place (ended (R.Whole v n)) small dead h e = absurd (whole_dead bytes place v n small dead (whole_reads bytes v n small e))
letter_answer bytes place (ended R.Short) small dead h e = absurd (subst (λ t. Ran t bytes) e (ran bytes small)).after
letter_answer bytes place (ended (R.Bad other why)) small dead h e =
    let found = bad_reads bytes other why small e in
    let at : other ≡ place = one_place bytes other place found.0 dead in
    let reason : IsReason (take place bytes) (get_or bytes place 0) why = subst (λ k. IsReason (take k bytes) (get_or bytes k 0) why) at found.1 in
    let is : why ≡ W.Letter = other_letter (take place bytes) (get_or bytes place 0) why h reason in
    cc
letter_answer bytes place (ended R.NoMemory) small dead h e = absurd (subst (λ t. Ran t bytes) e (ran bytes small)).after

bad_answer : (bytes : List ℕ) (place : ℕ) (why : Why) → AreBytes bytes → IsFirstDead bytes place → IsReason (take place bytes) (get_or bytes place 0) why
    → answer_of (feed begin bytes) ≡ R.Bad place why
bad_answer bytes place W.Leading small dead h = ap answer_of (refused_answer bytes place W.Leading dead.within (leading_refused _ _ h))
bad_answer bytes place W.MinusZero small dead h = ap answer_of (refused_answer bytes place W.MinusZero dead.within (minus_refused _ _ h))
bad_answer bytes place W.Range small dead h = ap answer_of (refused_answer bytes place W.Range dead.within (range_refused _ _ h))
bad_answer bytes place W.Letter small dead h = letter_answer bytes place (feed begin bytes) small dead h refl
bad_answer bytes place W.Depth small dead h = ap answer_of (refused_answer bytes place W.Depth dead.within (depth_refused _ _ h))
bad_answer bytes place W.Length small dead h = ap answer_of (refused_answer bytes place W.Length dead.within (length_refused _ _ h))
bad_answer bytes place W.Key small dead h = ap answer_of (refused_answer bytes place W.Key dead.within (key_refused _ _ h))

-- what is so of the bytes is what the steps answer
pub only : (bytes : List ℕ) (answer : Read) → AreBytes bytes → Reads bytes answer → (answer_of (feed begin bytes) ≡ answer) ⊎ (answer ≡ R.NoMemory)
only bytes (R.Whole v n) small h = inl (ap answer_of (whole_found bytes v n h))
only bytes R.Short small h = inl (goes_short bytes (feed begin bytes) small h refl)
only bytes (R.Bad place why) small h = inl (bad_answer bytes place why small h.0 h.1)
only bytes R.NoMemory small h = inr refl
