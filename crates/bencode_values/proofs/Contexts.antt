-- The bytes of what is open, and of a token, lead to the state that says so.
use Rattle.std.proofs.Common.{◌≡◌, ℕ, ◌+◌, ◌*◌, ◌-◌, ◌<◌, ◌≤◌, inl, inr, true, false, cond, List, [], ◌∷◌, ◌++◌, map, refl, sym, ap, ◌∙◌, length, arith, leb}
use Rattle.std.specs.List.{concat, AllByRecursion}
use Rattle.std.specs.Fmt.{decimal}
use Rattle.std.proofs.lemmas.List.{length-append}
use Rattle.std.proofs.lemmas.Bool.{lt-leb}
use Rattle.bencode_values.specs.declared.mark.Mark.TheVariants as M
use Rattle.bencode_values.specs.declared.value.Value.{Value}
use Rattle.bencode_values.specs.declared.value.Pair.{Pair}
use Rattle.bencode_values.specs.declared.reading.Read.TheVariants as R
use Rattle.bencode_values.specs.declared.reading.Why.{Why}
use Rattle.bencode_values.specs.declared.reading.Why.TheVariants as W
use Rattle.bencode_values.specs.Marks.{mark_of}
use Rattle.bencode_values.specs.Grammar.{spelled, spelled_pair, spelled_key}
use Rattle.bencode_values.specs.Reading.{Open, in_list, in_dict, in_entry, opened, context, IsKeyPlace, IsValuePlace, AreOpen, EndsIn, IsDigit, range_of, IsLeading, IsMinusZero, IsRange, IsLength, IsDepth, IsKey}
use Rattle.bencode_values.specs.Steps.{Token, start, sign, minus, zero_int, number, zero_length, size, string, State, going, ended, open_at, zero_int_step, number_step, zero_length_step, size_step, token_step, feed}
use Rattle.bencode_values.proofs.Digits.{mark-digit}
use Rattle.bencode_values.proofs.Parts.{part_of, TokenFits}
use Rattle.bencode_values.proofs.Feeding.{feed-nil, feed-going, feed-one, feed-append, feed-number, feed-size, feed-key, feed-spelled, ReadsValue, ReadsPair, reads_pair, reads_values, reads_pairs, open_at-value}

-- a reader that has read nothing
abbrev pub begin : State
begin = going 0 [] start

all_values : (vs : List Value) → AllByRecursion ReadsValue vs
all_values [] = tt
all_values (v ∷ vs) = (feed-spelled v, all_values vs)

all_pairs : (ps : List Pair) → AllByRecursion ReadsPair ps
all_pairs [] = tt
all_pairs (p ∷ ps) = (reads_pair p.key p.value (feed-spelled p.value), all_pairs ps)

count_is : (m n : ℕ) (opens : List Open) (token : Token) → m ≡ n → going m opens token ≡ going n opens token
count_is m n opens token e = ap (λ k. going k opens token) e

open_reads : (n : ℕ) (o : Open) (outer : List Open) → AreOpen (o ∷ outer) → feed (going n outer start) (opened o) ≡ going (n + length (opened o)) (o ∷ outer) start
open_reads n (in_list vs) outer h =
    feed-going n outer start 108 (concat (map spelled vs)) ∙ ap (λ s. feed s (concat (map spelled vs))) (open_at-value n outer (in_list []) h.2 h.0)
    ∙ reads_values vs (all_values vs) (n + 1) [] outer h.1 ∙ count_is _ _ _ _ (omega arith)
open_reads n (in_dict ps) outer h =
    feed-going n outer start 100 (concat (map spelled_pair ps)) ∙ ap (λ s. feed s (concat (map spelled_pair ps))) (open_at-value n outer (in_dict []) h.2 h.0)
    ∙ reads_pairs ps (all_pairs ps) (n + 1) [] outer h.1 ∙ count_is _ _ _ _ (omega arith)
open_reads n (in_entry ps k) outer h =
    let longer = length-append (concat (map spelled_pair ps)) (spelled_key k) in
    feed-going n outer start 100 (concat (map spelled_pair ps) ++ spelled_key k) ∙ ap (λ s. feed s (concat (map spelled_pair ps) ++ spelled_key k)) (open_at-value n outer (in_dict []) h.2 h.0)
    ∙ feed-append _ (concat (map spelled_pair ps)) (spelled_key k) ∙ ap (λ s. feed s (spelled_key k)) (reads_pairs ps (all_pairs ps) (n + 1) [] outer h.1.0)
    ∙ feed-key _ (in_dict ps ∷ outer) k h.1.1 ∙ count_is _ _ _ _ (omega arith)

pub context_reads : (opens : List Open) → AreOpen opens → feed begin (context opens) ≡ going (length (context opens)) opens start
context_reads [] h = feed-nil begin
context_reads (o ∷ outer) h =
    let longer = length-append (context outer) (opened o) in
    feed-append begin (context outer) (opened o) ∙ ap (λ s. feed s (opened o)) (context_reads outer h.3) ∙ open_reads _ o outer h ∙ count_is _ _ _ _ (omega arith)

-- a token's bytes, but a string's
abbrev IsNumeric : Token → Type 0
IsNumeric (string k so_far) = ⊥
IsNumeric token = Unit {0}

part_reads : (n : ℕ) (opens : List Open) (token : Token) → TokenFits token → IsNumeric token → feed (going n opens start) (part_of token) ≡ going (n + length (part_of token)) opens token
part_reads n opens start fits numeric = feed-nil _ ∙ count_is _ _ _ _ (omega arith)
part_reads n opens sign fits numeric = feed-one n opens start 105
part_reads n opens minus fits numeric = feed-going n opens start 105 (45 ∷ []) ∙ feed-one (n + 1) opens sign 45 ∙ count_is _ _ _ _ (omega arith)
part_reads n opens zero_int fits numeric = feed-going n opens start 105 (48 ∷ []) ∙ feed-one (n + 1) opens sign 48 ∙ count_is _ _ _ _ (omega arith)
part_reads n opens (number false k) fits numeric = feed-going n opens start 105 (decimal k) ∙ feed-number (n + 1) opens false k fits.0 fits.1 ∙ count_is _ _ _ _ (omega arith)
part_reads n opens (number true k) fits numeric = feed-going n opens start 105 (45 ∷ decimal k) ∙ feed-going (n + 1) opens sign 45 (decimal k) ∙ feed-number (n + 1 + 1) opens true k fits.0 fits.1 ∙ count_is _ _ _ _ (omega arith)
part_reads n opens zero_length fits numeric = feed-one n opens start 48
part_reads n opens (size k) fits numeric = feed-size n opens k fits.0 fits.1
part_reads n opens (string k so_far) fits numeric = absurd numeric

ends_at : (before : List ℕ) (opens : List Open) (token : Token) → TokenFits token → IsNumeric token → EndsIn before opens (part_of token)
    → feed begin before ≡ going (length before) opens token
ends_at before opens token fits numeric h =
    let longer = length-append (context opens) (part_of token) in
    ap (feed begin) h.parts ∙ feed-append begin (context opens) (part_of token) ∙ ap (λ s. feed s (part_of token)) (context_reads opens h.fits) ∙ part_reads _ opens token fits numeric
    ∙ count_is _ _ _ _ (sym (ap length h.parts ∙ longer))

then_byte : (before : List ℕ) (b : ℕ) (opens : List Open) (token : Token) (s : State) → feed begin before ≡ going (length before) opens token → token_step (length before) opens token b ≡ s
    → feed begin (before ++ b ∷ []) ≡ s
then_byte before b opens token s e h = feed-append begin before (b ∷ []) ∙ ap (λ t. feed t (b ∷ [])) e ∙ feed-one _ opens token b ∙ h

digit_mark : (b : ℕ) → IsDigit b → mark_of b ≡ M.Digit (b - 48)
digit_mark b h = let low = h.0 in let high = h.1 in
    let same : 48 + (b - 48) ≡ b = omega arith in
    ap mark_of (sym same) ∙ mark-digit (b - 48) (omega arith)

-- after these bytes the byte is refused, for this reason
abbrev pub Refused : List ℕ → ℕ → Why → Type 0
Refused before b why = feed begin (before ++ b ∷ []) ≡ ended (R.Bad (length before) why)

pub leading_refused : (before : List ℕ) (b : ℕ) → IsLeading before b → Refused before b W.Leading
leading_refused before b h = elim h.part [
  | inl part ↦ then_byte before b h.opens zero_int _ (ends_at before h.opens zero_int tt tt part) (ap (zero_int_step (length before) h.opens) (digit_mark b h.digit))
  | inr part ↦ then_byte before b h.opens zero_length _ (ends_at before h.opens zero_length tt tt part) (ap (zero_length_step (length before) h.opens) (digit_mark b h.digit))
]

pub minus_refused : (before : List ℕ) (b : ℕ) → IsMinusZero before b → Refused before b W.MinusZero
minus_refused before b h = then_byte before b h.opens minus _ (ends_at before h.opens minus tt tt h.part) (ap (token_step (length before) h.opens minus) h.zero_is)

pub range_refused : (before : List ℕ) (b : ℕ) → IsRange before b → Refused before b W.Range
range_refused before b h =
    let low = h.digit.0 in let high = h.digit.1 in let leaves = h.leaves in
    let wide : 9 ≤ range_of h.negative = elim h.negative as (λ s. 9 ≤ range_of s) [ true ↦ omega arith | false ↦ omega arith ] in
    let positive : 0 < h.number = omega arith in
    let over : leb (10 * h.number + (b - 48)) (range_of h.negative) ≡ false = lt-leb _ _ leaves in
    then_byte before b h.opens (number h.negative h.number) _ (ends_at before h.opens (number h.negative h.number) (positive, h.in_range) tt h.part)
    (ap (number_step (length before) h.opens h.negative h.number) (digit_mark b h.digit)
    ∙ ap (λ t. cond t (going (length before + 1) h.opens (number h.negative (10 * h.number + (b - 48)))) (ended (R.Bad (length before) W.Range))) over)

pub length_refused : (before : List ℕ) (b : ℕ) → IsLength before b → Refused before b W.Length
length_refused before b h =
    let low = h.digit.0 in let high = h.digit.1 in let leaves = h.exceeds in
    let positive : 0 < h.number = omega arith in
    let over : leb (10 * h.number + (b - 48)) 67108864 ≡ false = lt-leb _ _ leaves in
    then_byte before b h.opens (size h.number) _ (ends_at before h.opens (size h.number) (positive, h.in_limit) tt h.part)
    (ap (size_step (length before) h.opens h.number) (digit_mark b h.digit)
    ∙ ap (λ t. cond t (going (length before + 1) h.opens (size (10 * h.number + (b - 48)))) (ended (R.Bad (length before) W.Length))) over)

pub deepest : (n : ℕ) (opens : List Open) (o : Open) → IsValuePlace opens → length opens ≡ 32 → open_at n opens o ≡ ended (R.Bad n W.Depth)
deepest n [] o place deep = absurd (omega arith)
deepest n (in_list vs ∷ outer) o place deep = ap (λ t. cond t (going (n + 1) (o ∷ in_list vs ∷ outer) start) (ended (R.Bad n W.Depth))) (lt-leb _ _ (omega arith))
deepest n (in_dict ps ∷ outer) o place deep = absurd place
deepest n (in_entry ps k ∷ outer) o place deep = ap (λ t. cond t (going (n + 1) (o ∷ in_entry ps k ∷ outer) start) (ended (R.Bad n W.Depth))) (lt-leb _ _ (omega arith))

pub depth_refused : (before : List ℕ) (b : ℕ) → IsDepth before b → Refused before b W.Depth
depth_refused before b h = then_byte before b h.opens start _ (ends_at before h.opens start tt tt h.part)
    (elim h.opening [
      | inl list ↦ ap (token_step (length before) h.opens start) list ∙ deepest _ h.opens (in_list []) h.place h.deepest
      | inr dict ↦ ap (token_step (length before) h.opens start) dict ∙ deepest _ h.opens (in_dict []) h.place h.deepest
    ])

key_place : (n : ℕ) (opens : List Open) (o : Open) → IsKeyPlace opens → open_at n opens o ≡ ended (R.Bad n W.Key)
key_place n [] o place = absurd place
key_place n (in_list vs ∷ outer) o place = absurd place
key_place n (in_dict ps ∷ outer) o place = refl
key_place n (in_entry ps k ∷ outer) o place = absurd place

pub key_refused : (before : List ℕ) (b : ℕ) → IsKey before b → Refused before b W.Key
key_refused before b h = then_byte before b h.opens start _ (ends_at before h.opens start tt tt h.part)
    (elim h.opening [
      | inl list ↦ ap (token_step (length before) h.opens start) list ∙ key_place _ h.opens (in_list []) h.place
      | inr dict ↦ ap (token_step (length before) h.opens start) dict ∙ key_place _ h.opens (in_dict []) h.place
    ])
