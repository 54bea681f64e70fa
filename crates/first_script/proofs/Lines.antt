-- Lines and words of a text.
use Rattle.std.proofs.Common.{◌≡◌, inl, inr, ℕ, suc, ◌+◌, ◌-◌, ◌<◌, Bool, false, Some, None, List, [], ◌∷◌, ◌++◌, length, take, drop, get_or, cond, eqb, refl, sym, ap, ◌∙◌, arith}
use Rattle.std.specs.List.{onto_first, position_or_len, position}
use Rattle.std.proofs.lemmas.List.Elements.{All-head, All-tail}
use Rattle.std.proofs.lemmas.List.Sums.{fails_before_first}
use Rattle.std.proofs.Common.{drop-cons}
use Rattle.std.proofs.lemmas.Bool.{cases_lt, lt-ltb, eqb-true, ne_eqb}
use Rattle.std.proofs.lemmas.Option.{none-some}
use Rattle.std.proofs.lemmas.List.{take-append-drop, length-take, get_or-take, nil_from_length}
use Rattle.std.proofs.lemmas.List.Splits.{slice_split_none, slice_split_at, length-slice_split}
use Rattle.std.proofs.lemmas.List.Quantifiers.{position-Some}
use Rattle.first_script.specs.Text.{lines_of, words_of, IsWithout, IsCut}

abbrev Other : ℕ → ℕ → Type 0
Other byte other = eqb other byte ≡ false

lines-cons : (byte : ℕ) (bytes : List ℕ) → eqb byte 10 ≡ false → lines_of (byte ∷ bytes) ≡ onto_first byte (lines_of bytes)
lines-cons byte bytes other = ap (λ b. cond b ([] ∷ lines_of bytes) (onto_first byte (lines_of bytes))) other

pub lines_none : (text : List ℕ) → 0 < length text → IsWithout 10 text → lines_of text ≡ text ∷ []
lines_none [] some without = absurd (omega arith)
lines_none (byte ∷ []) some without = lines-cons byte [] (All-head (Other 10) byte [] without)
lines_none (byte ∷ next ∷ text) some without =
    lines-cons byte (next ∷ text) (All-head (Other 10) byte (next ∷ text) without) ∙ ap (onto_first byte) (lines_none (next ∷ text) (omega arith) (All-tail (Other 10) byte (next ∷ text) without))

pub lines_at : (line rest : List ℕ) → IsWithout 10 line → lines_of (line ++ 10 ∷ rest) ≡ line ∷ lines_of rest
lines_at [] rest without = refl
lines_at (byte ∷ line) rest without =
    lines-cons byte (line ++ 10 ∷ rest) (All-head (Other 10) byte line without) ∙ ap (onto_first byte) (lines_at line rest (All-tail (Other 10) byte line without))

-- ---- cut at a byte

pub cut_none : (text : List ℕ) (byte : ℕ) → position (λ other. eqb other byte) text ≡ None → IsWithout byte text
cut_none text byte none k d within =
    let p : ℕ → Bool = λ other. eqb other byte in
    elim (cases_lt (position_or_len p text) (length text)) [
      | inl found ↦ absurd (none-some (position_or_len p text) (sym none ∙ rw (lt-ltb (position_or_len p text) (length text) found) refl))
      | inr past ↦ fails_before_first p text k d (omega arith)
    ]

pub cut_some : (text : List ℕ) (byte end : ℕ) → position (λ other. eqb other byte) text ≡ Some end → IsCut byte text (take end text) (drop (end + 1) text)
cut_some text byte end found =
    let p : ℕ → Bool = λ other. eqb other byte in
    let here = position-Some p text end 0 found in
    let byte-is : get_or text end 0 ≡ byte = eqb-true (get_or text end 0) byte here.1 in
    let one-more : suc end ≡ end + 1 = omega arith in
    record {
      parts = sym (take-append-drop end text) ∙ ap (λ rest. take end text ++ rest) (drop-cons text end 0 here.0 ∙ ap (λ b. b ∷ drop (suc end) text) byte-is ∙ ap (λ n. byte ∷ drop n text) one-more);
      without = λ k d within.
          let lt : k < end = omega (arith, length-take end text) in
          rw (get_or-take end text k d lt) ((position-Some p text end d found).2 k lt);
    }

pub word_first : (text word rest : List ℕ) → IsCut 32 text word rest → words_of text ≡ word ∷ words_of rest
word_first text word rest is = ap words_of is.parts ∙ slice_split_at (λ byte. eqb byte 32) word 32 rest is.without refl

pub word_last : (text : List ℕ) → IsWithout 32 text → words_of text ≡ text ∷ []
word_last text without = slice_split_none (λ byte. eqb byte 32) text without

pub none_left : (text : List ℕ) → take (length text - length text) (drop (length text) text) ≡ []
none_left text = nil_from_length (take (length text - length text) (drop (length text) text)) (omega (arith, length-take (length text - length text) (drop (length text) text)))

pub some_left : (text : List ℕ) → false ≡ eqb (length (words_of text)) 0
some_left text = sym (ne_eqb (length (words_of text)) 0 (λ e. absurd (omega (arith, length-slice_split (λ byte. eqb byte 32) text, e))))
