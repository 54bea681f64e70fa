-- Lines and words of a text.
use Rattle.std.proofs.Common.{◌≡◌, inl, inr, ℕ, zero, suc, ◌+◌, ◌-◌, ◌<◌, ◌≤◌, Bool, true, false, not, ◌||◌, Some, None, List, [], ◌∷◌, ◌++◌, length, take, drop, get_or, cond, eqb, refl, sym, ap, ◌∙◌, arith}
use Rattle.std.specs.List.{All, filter, slice_split, onto_first, position_or_len, position}
use Rattle.std.proofs.Common.{drop-cons, add-zero}
use Rattle.std.proofs.lemmas.Bool.{cases_lt, lt-ltb, eqb-true, ne_eqb, not-false, not-true, both_ways}
use Rattle.std.proofs.lemmas.Option.{none-some}
use Rattle.std.proofs.lemmas.List.{take-append-drop, length-take, get_or-take, get_or-drop, drop_all, nil_from_length, length-drop}
use Rattle.std.proofs.lemmas.List.Elements.{All-head, All-tail}
use Rattle.std.proofs.lemmas.List.Sums.{fails_before_first}
use Rattle.std.proofs.lemmas.List.Splits.{slice_split_none, slice_split_at, slice_split-cons_yes}
use Rattle.std.proofs.lemmas.List.Quantifiers.{position-Some}
use Rattle.script_lines.specs.Text.{lines_of, words_of, is_blank, is_word}

-- ---- where a byte is found

-- what comes before the first byte that passes, that byte, and what comes after it
pub found_parts : (p : ℕ → Bool) (text : List ℕ) (end : ℕ) → position p text ≡ Some end
    → (text ≡ take end text ++ get_or text end 0 ∷ drop (end + 1) text) × All (λ b. p b ≡ false) (take end text) × (p (get_or text end 0) ≡ true) × (end < length text)
found_parts p text end found =
    let here = position-Some p text end 0 found in
    let one-more : suc end ≡ end + 1 = omega arith in
    let before : All (λ b. p b ≡ false) (take end text) = λ k d within.
    let lt : k < end = omega (arith, length-take end text) in
    rw (get_or-take end text k d lt) ((position-Some p text end d found).2 k lt) in (
      sym (take-append-drop end text) ∙ ap (λ rest. take end text ++ rest) (drop-cons text end 0 here.0 ∙ ap (λ n. get_or text end 0 ∷ drop n text) one-more),
      before,
      here.1,
      here.0,
    )

pub none_found : (p : ℕ → Bool) (text : List ℕ) → position p text ≡ None → All (λ b. p b ≡ false) text
none_found p text none k d within =
    elim (cases_lt (position_or_len p text) (length text)) [
      | inl found ↦ absurd (none-some (position_or_len p text) (sym none ∙ rw (lt-ltb (position_or_len p text) (length text) found) refl))
      | inr past ↦ fails_before_first p text k d (omega arith)
    ]

-- ---- lines

abbrev Other : ℕ → ℕ → Type 0
Other byte other = eqb other byte ≡ false

lines-cons : (byte : ℕ) (bytes : List ℕ) → eqb byte 10 ≡ false → lines_of (byte ∷ bytes) ≡ onto_first byte (lines_of bytes)
lines-cons byte bytes other = ap (λ b. cond b ([] ∷ lines_of bytes) (onto_first byte (lines_of bytes))) other

pub lines_none : (text : List ℕ) → 0 < length text → All (Other 10) text → lines_of text ≡ text ∷ []
lines_none [] some without = absurd (omega arith)
lines_none (byte ∷ []) some without = lines-cons byte [] (All-head (Other 10) byte [] without)
lines_none (byte ∷ next ∷ text) some without =
    lines-cons byte (next ∷ text) (All-head (Other 10) byte (next ∷ text) without) ∙ ap (onto_first byte) (lines_none (next ∷ text) (omega arith) (All-tail (Other 10) byte (next ∷ text) without))

lines_at : (line rest : List ℕ) → All (Other 10) line → lines_of (line ++ 10 ∷ rest) ≡ line ∷ lines_of rest
lines_at [] rest without = refl
lines_at (byte ∷ line) rest without =
    lines-cons byte (line ++ 10 ∷ rest) (All-head (Other 10) byte line without) ∙ ap (onto_first byte) (lines_at line rest (All-tail (Other 10) byte line without))

pub first_line_is : (text : List ℕ) (end : ℕ) → position (λ b. eqb b 10) text ≡ Some end → lines_of text ≡ take end text ∷ lines_of (drop (end + 1) text)
first_line_is text end found =
    let parts = found_parts (λ b. eqb b 10) text end found in
    let byte : get_or text end 0 ≡ 10 = eqb-true (get_or text end 0) 10 parts.2 in
    ap lines_of (parts.0 ∙ ap (λ b. take end text ++ b ∷ drop (end + 1) text) byte) ∙ lines_at (take end text) (drop (end + 1) text) parts.1

-- ---- words

pub words_nil : words_of [] ≡ []
unfolding words_of
words_nil = refl

words_blank : (byte : ℕ) (rest : List ℕ) → is_blank byte ≡ true → words_of (byte ∷ rest) ≡ words_of rest
unfolding words_of
words_blank byte rest blank = ap (filter is_word) (slice_split-cons_yes is_blank byte rest blank)

-- blanks at the front are skipped
skipped : (line : List ℕ) (start : ℕ) → start ≤ length line → ((k : ℕ) → k < start → is_blank (get_or line k 0) ≡ true) → words_of line ≡ words_of (drop start line)
skipped line zero within blanks = refl
skipped [] (suc start) within blanks = refl
skipped (byte ∷ line) (suc start) within blanks =
    words_blank byte line (blanks 0 (omega arith)) ∙ skipped line start (omega arith) (λ k below. blanks (suc k) (omega arith))

pub words_skipped : (line : List ℕ) (start : ℕ) → position (λ b. not (is_blank b)) line ≡ Some start → words_of line ≡ words_of (drop start line)
words_skipped line start found =
    let here = position-Some (λ b. not (is_blank b)) line start 0 found in
    skipped line start (omega arith) (λ k below. not-false (is_blank (get_or line k 0)) (here.2 k below))

pub words_none : (line : List ℕ) → position (λ b. not (is_blank b)) line ≡ None → words_of line ≡ []
words_none line none =
    let all = none_found (λ b. not (is_blank b)) line none in
    skipped line (length line) (omega arith) (λ k below. not-false (is_blank (get_or line k 0)) (all k 0 below)) ∙ ap words_of (drop_all (length line) line (omega arith)) ∙ words_nil

-- where the blanks end, a word begins
pub begins : (line : List ℕ) (start : ℕ) → position (λ b. not (is_blank b)) line ≡ Some start → (start < length line) × (is_blank (get_or line start 0) ≡ false)
begins line start found =
    let here = position-Some (λ b. not (is_blank b)) line start 0 found in
    (here.0, not-true (is_blank (get_or line start 0)) here.1)

word_kept : (word : List ℕ) (parts : List (List ℕ)) → 0 < length word → filter is_word (word ∷ parts) ≡ word ∷ filter is_word parts
word_kept word parts some =
    ap (λ b. cond (not b) (word ∷ filter is_word parts) (filter is_word parts)) (ne_eqb (length word) 0 (λ e. absurd (omega arith)))

pub word_last : (line : List ℕ) → 0 < length line → All (λ b. is_blank b ≡ false) line → words_of line ≡ line ∷ []
unfolding words_of
word_last line some without = ap (filter is_word) (slice_split_none is_blank line without) ∙ word_kept line [] some

word_at : (word rest : List ℕ) (blank : ℕ) → 0 < length word → All (λ b. is_blank b ≡ false) word → is_blank blank ≡ true → words_of (word ++ blank ∷ rest) ≡ word ∷ words_of (blank ∷ rest)
unfolding words_of
word_at word rest blank some without is =
    ap (filter is_word) (slice_split_at is_blank word blank rest without is) ∙ word_kept word (slice_split is_blank rest) some ∙ ap (λ ws. word ∷ ws) (sym (words_blank blank rest is))

-- a line that begins with a word, to the first blank
pub word_first : (line : List ℕ) (end : ℕ) → 0 < length line → is_blank (get_or line 0 0) ≡ false → position is_blank line ≡ Some end
    → words_of line ≡ take end line ∷ words_of (drop end line)
word_first line end some word found =
    let parts = found_parts is_blank line end found in
    let one-more : suc end ≡ end + 1 = omega arith in
    let rest : drop end line ≡ get_or line end 0 ∷ drop (end + 1) line = drop-cons line end 0 parts.3 ∙ ap (λ n. get_or line end 0 ∷ drop n line) one-more in
    let longer : 0 < length (take end line) = elim (cases_lt 0 end) [
      | inl above ↦ omega (arith, length-take end line, parts.3)
      | inr zero_at ↦
          let none : end ≡ 0 = omega arith in
          absurd (both_ways (is_blank (get_or line 0 0)) word (ap (λ n. is_blank (get_or line n 0)) (sym none) ∙ parts.2))
    ] in
    ap words_of parts.0 ∙ word_at (take end line) (drop (end + 1) line) (get_or line end 0) longer parts.1 parts.2 ∙ ap (λ tail. take end line ∷ words_of tail) (sym rest)

pub none_left : (text : List ℕ) → take (length text - length text) (drop (length text) text) ≡ []
none_left text = nil_from_length (take (length text - length text) (drop (length text) text)) (omega (arith, length-take (length text - length text) (drop (length text) text)))

-- ---- the next word of a line

pub word_found : (line : List ℕ) (start end : ℕ) → position (λ b. not (is_blank b)) line ≡ Some start → position is_blank (drop start line) ≡ Some end
    → words_of line ≡ take end (drop start line) ∷ words_of (drop end (drop start line))
word_found line start end skip found =
    let at = begins line start skip in
    let some : 0 < length (drop start line) = omega (arith, length-drop start line, at.0) in
    let here : is_blank (get_or (drop start line) 0 0) ≡ false = ap is_blank (get_or-drop start line 0 0 ∙ ap (λ n. get_or line n 0) (add-zero start)) ∙ at.1 in
    words_skipped line start skip ∙ word_first (drop start line) end some here found

pub word_only : (line : List ℕ) (start : ℕ) → position (λ b. not (is_blank b)) line ≡ Some start → position is_blank (drop start line) ≡ None
    → words_of line ≡ drop start line ∷ words_of []
word_only line start skip none =
    let at = begins line start skip in
    let some : 0 < length (drop start line) = omega (arith, length-drop start line, at.0) in
    words_skipped line start skip ∙ word_last (drop start line) some (none_found is_blank (drop start line) none) ∙ ap (λ ws. drop start line ∷ ws) (sym words_nil)
