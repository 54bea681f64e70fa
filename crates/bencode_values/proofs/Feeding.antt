-- Feeding bytes: laws of the steps, and what each spelling leads to.
use Rattle.std.proofs.Common.{◌≡◌, ℕ, pos, negsuc, suc, zero, ◌+◌, ◌*◌, ◌-◌, ◌/◌, ◌%◌, ◌^◌, ◌<◌, ◌≤◌, inl, inr, Bool, true, false, cond, List, [], ◌∷◌, ◌++◌, map, refl, sym, ap, subst, ◌∙◌, length, arith, append_assoc}
use Rattle.std.specs.List.{concat, AllByRecursion}
use Rattle.std.specs.Fmt.{decimal}
use Rattle.std.proofs.lemmas.Bool.{and_parts, leb-true, le-leb}
use Rattle.std.proofs.lemmas.Bool.Decides.{leb_tells}
use Rattle.std.proofs.lemmas.List.{append-nil, length-append}
use Rattle.std.proofs.lemmas.Fmt.{decimal_digit}
use Rattle.bencode_values.specs.declared.value.Key.{Key}
use Rattle.bencode_values.specs.declared.value.Key.TheVariants as K
use Rattle.bencode_values.specs.declared.value.Value.{Value}
use Rattle.bencode_values.specs.declared.value.Value.TheVariants as V
use Rattle.bencode_values.specs.declared.value.Pair.{Pair}
use Rattle.bencode_values.specs.declared.reading.Read.{Read}
use Rattle.bencode_values.specs.declared.reading.Read.TheVariants as R
use Rattle.bencode_values.specs.declared.reading.Why.TheVariants as W
use Rattle.bencode_values.specs.Grammar.{spelled, spelled_pair, spelled_key, key_fits, Fits, PairFits}
use Rattle.bencode_values.specs.Reading.{Open, in_list, in_dict, in_entry, IsValuePlace, range_of}
use Rattle.bencode_values.specs.Steps.{Token, start, sign, minus, zero_int, number, zero_length, size, string, State, going, ended, value_of, deliver, deliver_key, open_at, start_step, sign_step, minus_step, number_step, size_step, token_step, step, feed}
use Rattle.bencode_values.proofs.Digits.{mark-digit, decimal_push}
use Rattle.bencode_values.proofs.Values.{spelled-Int, spelled-Bytes, spelled-List, spelled-Dict, spelled_pair-record, of_Int, of_Bytes, of_List, of_Dict, of_pair, induction}

pub feed-nil : (s : State) → feed s [] ≡ s
unfolding feed
feed-nil s = refl

pub feed-cons : (s : State) (b : ℕ) (bytes : List ℕ) → feed s (b ∷ bytes) ≡ feed (step s b) bytes
unfolding feed
feed-cons s b bytes = refl

pub step-going : (n : ℕ) (opens : List Open) (token : Token) (b : ℕ) → step (going n opens token) b ≡ token_step n opens token b
unfolding step
step-going n opens token b = refl

pub step-ended : (answer : Read) (b : ℕ) → step (ended answer) b ≡ ended answer
unfolding step
step-ended answer b = refl

pub feed-going : (n : ℕ) (opens : List Open) (token : Token) (b : ℕ) (bytes : List ℕ) → feed (going n opens token) (b ∷ bytes) ≡ feed (token_step n opens token b) bytes
unfolding feed step
feed-going n opens token b bytes = refl

pub feed-one : (n : ℕ) (opens : List Open) (token : Token) (b : ℕ) → feed (going n opens token) (b ∷ []) ≡ token_step n opens token b
unfolding feed step
feed-one n opens token b = refl

pub feed-append : (s : State) (xs ys : List ℕ) → feed s (xs ++ ys) ≡ feed (feed s xs) ys
unfolding feed
feed-append s [] ys = refl
feed-append s (x ∷ xs) ys = feed-append (step s x) xs ys

pub feed-ended : (answer : Read) (bytes : List ℕ) → feed (ended answer) bytes ≡ ended answer
unfolding feed step
feed-ended answer [] = refl
feed-ended answer (b ∷ bytes) = feed-ended answer bytes

-- a claim of the numbers from 1 on, by their last digits
digits_below : (P : ℕ → Type 0) → ((d : ℕ) → 0 < d → d ≤ 9 → P d) → ((q r : ℕ) → 0 < q → r ≤ 9 → P q → P (10 * q + r)) → (fuel k : ℕ) → k ≤ fuel → 0 < k → P k
digits_below P one more zero k bound positive = absurd (omega arith)
digits_below P one more (suc fuel) k bound positive =
    elim (leb_tells 10 k) [
      | inr small ↦ one k positive (let h = small.1 in omega arith)
      | inl large ↦
          let h = large.1 in
          let whole : 10 * (k / 10) + k % 10 ≡ k = omega arith in
          subst P whole (more (k / 10) (k % 10) (omega arith) (omega arith) (digits_below P one more fuel (k / 10) (omega arith) (omega arith)))
    ]

pub by_digits : (P : ℕ → Type 0) → ((d : ℕ) → 0 < d → d ≤ 9 → P d) → ((q r : ℕ) → 0 < q → r ≤ 9 → P q → P (10 * q + r)) → (k : ℕ) → 0 < k → P k
by_digits P one more k positive = digits_below P one more k k (omega arith) positive

count_is : (m n : ℕ) (opens : List Open) (token : Token) → m ≡ n → going m opens token ≡ going n opens token
count_is m n opens token e = ap (λ k. going k opens token) e

after_sign : Bool → Token
after_sign negative = cond negative minus sign

first_number : (n : ℕ) (opens : List Open) (negative : Bool) (d : ℕ) → 0 < d → d ≤ 9 → token_step n opens (cond negative minus sign) (48 + d) ≡ going (n + 1) opens (number negative d)
first_number n opens negative zero positive small = absurd (omega arith)
first_number n opens true (suc d) positive small = ap (minus_step n opens) (mark-digit (suc d) small)
first_number n opens false (suc d) positive small = ap (sign_step n opens) (mark-digit (suc d) small)

more_number : (n : ℕ) (opens : List Open) (negative : Bool) (k d : ℕ) → d ≤ 9 → 10 * k + d ≤ range_of negative → token_step n opens (number negative k) (48 + d) ≡ going (n + 1) opens (number negative (10 * k + d))
more_number n opens negative k d small bound = ap (number_step n opens negative k) (mark-digit d small)
    ∙ ap (λ t. cond t (going (n + 1) opens (number negative (10 * k + d))) (ended (R.Bad n W.Range))) (le-leb _ _ bound)

range_small : (negative : Bool) (k : ℕ) → k ≤ range_of negative → k < 2 ^ 64
range_small false k h = omega arith
range_small true k h = omega arith

-- the digits of a number
pub feed-number : (n : ℕ) (opens : List Open) (negative : Bool) (k : ℕ) → 0 < k → k ≤ range_of negative
    → feed (going n opens (cond negative minus sign)) (decimal k) ≡ going (n + length (decimal k)) opens (number negative k)
feed-number n opens negative k positive = by_digits
    (λ k. k ≤ range_of negative → feed (going n opens (cond negative minus sign)) (decimal k) ≡ going (n + length (decimal k)) opens (number negative k))
    (λ d positive small bound. let digit : decimal d ≡ (48 + d) ∷ [] = decimal_digit d (omega arith) in
    ap (feed _) digit ∙ feed-one n opens _ (48 + d) ∙ first_number n opens negative d positive small ∙ count_is _ _ opens _ (ap (λ l. n + length l) (sym digit)))
    (λ q r positive small so_far bound. let digits : decimal (10 * q + r) ≡ decimal q ++ (48 + r) ∷ [] = decimal_push q r positive small (range_small negative _ bound) in
    let longer = length-append (decimal q) ((48 + r) ∷ []) in
    let less : q ≤ range_of negative = omega arith in
    ap (feed _) digits ∙ feed-append _ (decimal q) ((48 + r) ∷ []) ∙ ap (λ s. feed s ((48 + r) ∷ [])) (so_far less)
    ∙ feed-one _ opens _ (48 + r) ∙ more_number _ opens negative q r small bound ∙ count_is _ _ opens _ (sym (ap (λ l. n + length l) digits ∙ omega arith)))
    k positive

first_size : (n : ℕ) (opens : List Open) (d : ℕ) → 0 < d → d ≤ 9 → token_step n opens start (48 + d) ≡ going (n + 1) opens (size d)
first_size n opens zero positive small = absurd (omega arith)
first_size n opens (suc d) positive small = ap (start_step n opens) (mark-digit (suc d) small)

more_size : (n : ℕ) (opens : List Open) (k d : ℕ) → d ≤ 9 → 10 * k + d ≤ 67108864 → token_step n opens (size k) (48 + d) ≡ going (n + 1) opens (size (10 * k + d))
more_size n opens k d small bound = ap (size_step n opens k) (mark-digit d small)
    ∙ ap (λ t. cond t (going (n + 1) opens (size (10 * k + d))) (ended (R.Bad n W.Length))) (le-leb _ _ bound)

-- the digits of a length
pub feed-size : (n : ℕ) (opens : List Open) (k : ℕ) → 0 < k → k ≤ 67108864 → feed (going n opens start) (decimal k) ≡ going (n + length (decimal k)) opens (size k)
feed-size n opens k positive = by_digits
    (λ k. k ≤ 67108864 → feed (going n opens start) (decimal k) ≡ going (n + length (decimal k)) opens (size k))
    (λ d positive small bound. let digit : decimal d ≡ (48 + d) ∷ [] = decimal_digit d (omega arith) in
    ap (feed _) digit ∙ feed-one n opens _ (48 + d) ∙ first_size n opens d positive small ∙ count_is _ _ opens _ (ap (λ l. n + length l) (sym digit)))
    (λ q r positive small so_far bound. let digits : decimal (10 * q + r) ≡ decimal q ++ (48 + r) ∷ [] = decimal_push q r positive small (omega arith) in
    let longer = length-append (decimal q) ((48 + r) ∷ []) in
    let less : q ≤ 67108864 = omega arith in
    ap (feed _) digits ∙ feed-append _ (decimal q) ((48 + r) ∷ []) ∙ ap (λ s. feed s ((48 + r) ∷ [])) (so_far less)
    ∙ feed-one _ opens _ (48 + r) ∙ more_size _ opens q r small bound ∙ count_is _ _ opens _ (sym (ap (λ l. n + length l) digits ∙ omega arith)))
    k positive

-- the bytes of a string
pub feed-string : (n : ℕ) (opens : List Open) (k : ℕ) (so_far text : List ℕ) → 0 < k → length text ≡ k
    → feed (going n opens (string k so_far)) text ≡ deliver_key (n + k) opens (K.Bytes (so_far ++ text))
feed-string n opens k so_far [] positive e = absurd (omega arith)
feed-string n opens zero so_far (b ∷ text) positive e = absurd (omega arith)
feed-string n opens (suc zero) so_far (b ∷ []) positive e = feed-one n opens (string 1 so_far) b
feed-string n opens (suc zero) so_far (b ∷ c ∷ text) positive e = absurd (omega arith)
feed-string n opens (suc (suc k)) so_far (b ∷ []) positive e = absurd (omega arith)
feed-string n opens (suc (suc k)) so_far (b ∷ c ∷ text) positive e =
    feed-going n opens (string (suc (suc k)) so_far) b (c ∷ text) ∙ feed-string (n + 1) opens (suc k) (so_far ++ b ∷ []) (c ∷ text) (omega arith) (omega arith)
    ∙ ap (λ m. deliver_key m opens (K.Bytes ((so_far ++ b ∷ []) ++ c ∷ text))) (omega arith) ∙ ap (λ l. deliver_key (n + suc (suc k)) opens (K.Bytes l)) (append_assoc so_far (b ∷ []) (c ∷ text))

key_count : (m n : ℕ) (opens : List Open) (k : Key) → m ≡ n → deliver_key m opens k ≡ deliver_key n opens k
key_count m n opens k e = ap (λ c. deliver_key c opens k) e

-- an integer or a byte string
pub feed-key : (n : ℕ) (opens : List Open) (k : Key) → key_fits k ≡ true → feed (going n opens start) (spelled_key k) ≡ deliver_key (n + length (spelled_key k)) opens k
feed-key n opens (K.Int (pos zero)) fits =
    let digit : decimal 0 ≡ 48 ∷ [] = decimal_digit 0 (omega arith) in
    ap (λ l. feed (going n opens start) (105 ∷ (l ++ 101 ∷ []))) digit
    ∙ feed-going n opens start 105 (48 ∷ 101 ∷ []) ∙ feed-going (n + 1) opens sign 48 (101 ∷ []) ∙ feed-one (n + 1 + 1) opens zero_int 101
    ∙ key_count _ _ opens (K.Int (pos 0)) (omega arith) ∙ ap (λ l. deliver_key (n + length (105 ∷ (l ++ 101 ∷ []))) opens (K.Int (pos 0))) (sym digit)
feed-key n opens (K.Int (pos (suc k))) fits =
    let bound = leb-true _ _ fits in let longer = length-append (decimal (suc k)) (101 ∷ []) in
    feed-going n opens start 105 (decimal (suc k) ++ 101 ∷ []) ∙ feed-append (going (n + 1) opens sign) (decimal (suc k)) (101 ∷ [])
    ∙ ap (λ s. feed s (101 ∷ [])) (feed-number (n + 1) opens false (suc k) (omega arith) (omega arith))
    ∙ feed-one (n + 1 + length (decimal (suc k))) opens (number false (suc k)) 101 ∙ key_count _ _ opens (K.Int (pos (suc k))) (omega arith)
feed-key n opens (K.Int (negsuc k)) fits =
    let bound = leb-true _ _ fits in let longer = length-append (decimal (suc k)) (101 ∷ []) in
    feed-going n opens start 105 (45 ∷ (decimal (suc k) ++ 101 ∷ [])) ∙ feed-going (n + 1) opens sign 45 (decimal (suc k) ++ 101 ∷ []) ∙ feed-append (going (n + 1 + 1) opens minus) (decimal (suc k)) (101 ∷ [])
    ∙ ap (λ s. feed s (101 ∷ [])) (feed-number (n + 1 + 1) opens true (suc k) (omega arith) (omega arith))
    ∙ feed-one (n + 1 + 1 + length (decimal (suc k))) opens (number true (suc k)) 101 ∙ key_count _ _ opens (K.Int (negsuc k)) (omega arith)
feed-key n opens (K.Bytes []) fits =
    let digit : decimal 0 ≡ 48 ∷ [] = decimal_digit 0 (omega arith) in
    ap (λ l. feed (going n opens start) (l ++ 58 ∷ [])) digit
    ∙ feed-going n opens start 48 (58 ∷ []) ∙ feed-one (n + 1) opens zero_length 58
    ∙ key_count _ _ opens (K.Bytes []) (omega arith) ∙ ap (λ l. deliver_key (n + length (l ++ 58 ∷ [])) opens (K.Bytes [])) (sym digit)
feed-key n opens (K.Bytes (b ∷ text)) fits =
    let bound = leb-true _ _ (and_parts _ _ fits).0 in let longer = length-append (decimal (length (b ∷ text))) (58 ∷ b ∷ text) in
    feed-append (going n opens start) (decimal (length (b ∷ text))) (58 ∷ b ∷ text)
    ∙ ap (λ s. feed s (58 ∷ b ∷ text)) (feed-size n opens (length (b ∷ text)) (omega arith) bound)
    ∙ feed-going (n + length (decimal (length (b ∷ text)))) opens (size (length (b ∷ text))) 58 (b ∷ text)
    ∙ feed-string (n + length (decimal (length (b ∷ text))) + 1) opens (length (b ∷ text)) [] (b ∷ text) (omega arith) refl
    ∙ key_count _ _ opens (K.Bytes (b ∷ text)) (omega arith)

-- in a value's place a key is a value
pub deliver_key-value : (n : ℕ) (opens : List Open) (k : Key) → IsValuePlace opens → deliver_key n opens k ≡ deliver n opens (value_of k)
deliver_key-value n [] k place = refl
deliver_key-value n (in_list vs ∷ outer) k place = refl
deliver_key-value n (in_dict ps ∷ outer) k place = absurd place
deliver_key-value n (in_entry ps j ∷ outer) k place = refl

pub open_at-value : (n : ℕ) (opens : List Open) (o : Open) → IsValuePlace opens → length opens < 32 → open_at n opens o ≡ going (n + 1) (o ∷ opens) start
open_at-value n [] o place less = refl
open_at-value n (in_list vs ∷ outer) o place less = ap (λ t. cond t (going (n + 1) (o ∷ in_list vs ∷ outer) start) (ended (R.Bad n W.Depth))) (le-leb _ _ less)
open_at-value n (in_dict ps ∷ outer) o place less = absurd place
open_at-value n (in_entry ps j ∷ outer) o place less = ap (λ t. cond t (going (n + 1) (o ∷ in_entry ps j ∷ outer) start) (ended (R.Bad n W.Depth))) (le-leb _ _ less)

-- a value's spelling, where a value may stand, and a pair's, where a key may
abbrev pub ReadsValue : Value → Type 0
ReadsValue v = (n : ℕ) (opens : List Open) → IsValuePlace opens → Fits (32 - length opens) v → feed (going n opens start) (spelled v) ≡ deliver (n + length (spelled v)) opens v

abbrev pub ReadsPair : Pair → Type 0
ReadsPair p = (n : ℕ) (ps : List Pair) (outer : List Open) → PairFits (31 - length outer) p
    → feed (going n (in_dict ps ∷ outer) start) (spelled_pair p) ≡ going (n + length (spelled_pair p)) (in_dict (ps ++ p ∷ []) ∷ outer) start

pub reads_values : (vs : List Value) → AllByRecursion ReadsValue vs → (n : ℕ) (before : List Value) (outer : List Open) → AllByRecursion (Fits (31 - length outer)) vs
    → feed (going n (in_list before ∷ outer) start) (concat (map spelled vs)) ≡ going (n + length (concat (map spelled vs))) (in_list (before ++ vs) ∷ outer) start
reads_values [] each n before outer fits = feed-nil _ ∙ ap (λ l. going n (in_list l ∷ outer) start) (sym (append-nil before)) ∙ count_is _ _ _ _ (omega arith)
reads_values (v ∷ vs) each n before outer fits =
    let room : 31 - length outer ≡ 32 - suc (length outer) = omega arith in
    let longer = length-append (spelled v) (concat (map spelled vs)) in
    feed-append _ (spelled v) (concat (map spelled vs))
    ∙ ap (λ s. feed s (concat (map spelled vs))) (each.0 n (in_list before ∷ outer) tt (subst (λ r. Fits r v) room fits.0))
    ∙ reads_values vs each.1 (n + length (spelled v)) (before ++ v ∷ []) outer fits.1
    ∙ ap (λ l. going (n + length (spelled v) + length (concat (map spelled vs))) (in_list l ∷ outer) start) (append_assoc before (v ∷ []) vs)
    ∙ count_is _ _ _ _ (omega arith)

pub reads_pairs : (ps : List Pair) → AllByRecursion ReadsPair ps → (n : ℕ) (before : List Pair) (outer : List Open) → AllByRecursion (PairFits (31 - length outer)) ps
    → feed (going n (in_dict before ∷ outer) start) (concat (map spelled_pair ps)) ≡ going (n + length (concat (map spelled_pair ps))) (in_dict (before ++ ps) ∷ outer) start
reads_pairs [] each n before outer fits = feed-nil _ ∙ ap (λ l. going n (in_dict l ∷ outer) start) (sym (append-nil before)) ∙ count_is _ _ _ _ (omega arith)
reads_pairs (p ∷ ps) each n before outer fits =
    let longer = length-append (spelled_pair p) (concat (map spelled_pair ps)) in
    feed-append _ (spelled_pair p) (concat (map spelled_pair ps))
    ∙ ap (λ s. feed s (concat (map spelled_pair ps))) (each.0 n before outer fits.0)
    ∙ reads_pairs ps each.1 (n + length (spelled_pair p)) (before ++ p ∷ []) outer fits.1
    ∙ ap (λ l. going (n + length (spelled_pair p) + length (concat (map spelled_pair ps))) (in_dict l ∷ outer) start) (append_assoc before (p ∷ []) ps)
    ∙ count_is _ _ _ _ (omega arith)

deliver_count : (m n : ℕ) (opens : List Open) (v : Value) → m ≡ n → deliver m opens v ≡ deliver n opens v
deliver_count m n opens v e = ap (λ c. deliver c opens v) e

reads_list : (vs : List Value) → AllByRecursion ReadsValue vs → ReadsValue (V.List vs)
reads_list vs each n opens place fits =
    let parts = of_List _ vs fits in
    let less : length opens < 32 = let h = parts.0 in omega arith in
    let room : 32 - length opens - 1 ≡ 31 - length opens = omega arith in
    let longer = length-append (concat (map spelled vs)) (101 ∷ []) in
    ap (feed (going n opens start)) (spelled-List vs)
    ∙ feed-going n opens start 108 (concat (map spelled vs) ++ 101 ∷ []) ∙ ap (λ s. feed s (concat (map spelled vs) ++ 101 ∷ [])) (open_at-value n opens (in_list []) place less)
    ∙ feed-append _ (concat (map spelled vs)) (101 ∷ []) ∙ ap (λ s. feed s (101 ∷ [])) (reads_values vs each (n + 1) [] opens (subst (λ r. AllByRecursion (Fits r) vs) room parts.1))
    ∙ feed-one _ (in_list vs ∷ opens) start 101
    ∙ deliver_count _ _ opens (V.List vs) (sym (ap (λ l. n + length l) (spelled-List vs) ∙ omega arith))

reads_dict : (ps : List Pair) → AllByRecursion ReadsPair ps → ReadsValue (V.Dict ps)
reads_dict ps each n opens place fits =
    let parts = of_Dict _ ps fits in
    let less : length opens < 32 = let h = parts.0 in omega arith in
    let room : 32 - length opens - 1 ≡ 31 - length opens = omega arith in
    let longer = length-append (concat (map spelled_pair ps)) (101 ∷ []) in
    ap (feed (going n opens start)) (spelled-Dict ps)
    ∙ feed-going n opens start 100 (concat (map spelled_pair ps) ++ 101 ∷ []) ∙ ap (λ s. feed s (concat (map spelled_pair ps) ++ 101 ∷ [])) (open_at-value n opens (in_dict []) place less)
    ∙ feed-append _ (concat (map spelled_pair ps)) (101 ∷ []) ∙ ap (λ s. feed s (101 ∷ [])) (reads_pairs ps each (n + 1) [] opens (subst (λ r. AllByRecursion (PairFits r) ps) room parts.1))
    ∙ feed-one _ (in_dict ps ∷ opens) start 101
    ∙ deliver_count _ _ opens (V.Dict ps) (sym (ap (λ l. n + length l) (spelled-Dict ps) ∙ omega arith))

reads_atom : (k : Key) (v : Value) → value_of k ≡ v → spelled v ≡ spelled_key k → (n : ℕ) (opens : List Open) → IsValuePlace opens → key_fits k ≡ true
    → feed (going n opens start) (spelled v) ≡ deliver (n + length (spelled v)) opens v
reads_atom k v is spells n opens place fits =
    ap (feed (going n opens start)) spells ∙ feed-key n opens k fits ∙ deliver_key-value _ opens k place
    ∙ ap (deliver (n + length (spelled_key k)) opens) is ∙ deliver_count _ _ opens v (ap (λ l. n + length l) (sym spells))

pub reads_pair : (k : Key) (v : Value) → ReadsValue v → ReadsPair (record { key = k; value = v })
reads_pair k v reads n ps outer fits =
    let parts = of_pair _ k v fits in
    let room : 31 - length outer ≡ 32 - suc (length outer) = omega arith in
    let pair : Pair = record { key = k; value = v } in
    let longer = length-append (spelled_key k) (spelled v) in
    ap (feed (going n (in_dict ps ∷ outer) start)) (spelled_pair-record k v)
    ∙ feed-append _ (spelled_key k) (spelled v) ∙ ap (λ s. feed s (spelled v)) (feed-key n (in_dict ps ∷ outer) k parts.0)
    ∙ reads (n + length (spelled_key k)) (in_entry ps k ∷ outer) tt (subst (λ r. Fits r v) room parts.1)
    ∙ count_is _ _ (in_dict (ps ++ pair ∷ []) ∷ outer) start (sym (ap (λ l. n + length l) (spelled_pair-record k v) ∙ omega arith))

-- each spelling within the limits leads to its value
pub feed-spelled : (v : Value) → ReadsValue v
feed-spelled = induction ReadsValue ReadsPair
    (λ m n opens place fits. reads_atom (K.Int m) (V.Int m) refl (spelled-Int m) n opens place (of_Int _ m fits))
    (λ text n opens place fits. reads_atom (K.Bytes text) (V.Bytes text) refl (spelled-Bytes text) n opens place (of_Bytes _ text fits))
    reads_list reads_dict reads_pair
