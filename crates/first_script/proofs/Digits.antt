-- Numbers by their digits.
use Rattle.std.proofs.Common.{◌≡◌, ℕ, zero, ◌+◌, ◌*◌, ◌^◌, ◌<◌, ◌≤◌, lit<, Bool, true, Some, None, List, [], ◌∷◌, ◌++◌, length, take, get_or, map, ltb, refl, sym, ap, ◌∙◌, arith}
use Rattle.std.specs.List.{list_all}
use Rattle.std.proofs.Math.Nat.{pow-zero, pow-succ', pow-le-pow_left, pow-le-pow_right, mul-le-mul_right, mul_assoc, mul_comm, mul-add, add-mul, one-mul, mul-one}
use Rattle.std.proofs.lemmas.Bool.{and_parts, ltb-true, lt-ltb, le-ltb}
use Rattle.std.proofs.lemmas.List.{length_push, length-map, take_more, map_push}
use Rattle.std.proofs.lemmas.List.Folds.{list_all_more, list_all_at}
use Rattle.std.proofs.lemmas.Grind.{common_steps}
use Rattle.first_script.specs.Text.{digit, value, numeral}

abbrev pub is_digit : ℕ → ℕ → Bool
is_digit base byte = ltb (digit byte) base

abbrev pub AreDigits : ℕ → List ℕ → Type 0
AreDigits base word = list_all (is_digit base) word ≡ true

-- one more digit
pub value-push : (base : ℕ) (digits : List ℕ) (d : ℕ) → value base (digits ++ d ∷ []) ≡ base * value base digits + d
value-push base [] d =
    let one : d * base ^ zero ≡ d = ap (λ n. d * n) (pow-zero base) ∙ mul-one d in
    omega (arith, one)
value-push base (first ∷ digits) d =
    let power = base ^ length digits in
    let longer : base ^ length (digits ++ d ∷ []) ≡ base * power = ap (λ n. base ^ n) (length_push digits d ∙ omega arith) ∙ pow-succ' base (length digits) in
    let front : first * base ^ length (digits ++ d ∷ []) ≡ base * (first * power) =
    ap (λ n. first * n) longer ∙ sym (mul_assoc first base power) ∙ ap (λ n. n * power) (mul_comm first base) ∙ mul_assoc base first power in
    let back = value-push base digits d in
    let both : base * (first * power + value base digits) ≡ base * (first * power) + base * value base digits = mul-add base (first * power) (value base digits) in
    sum_parts (first * base ^ length (digits ++ d ∷ [])) (value base (digits ++ d ∷ [])) (base * (first * power)) (base * value base digits) (base * (first * power + value base digits)) d front back both
  where
    sum_parts : (a b x y z d : ℕ) → a ≡ x → b ≡ y + d → z ≡ x + y → a + b ≡ z + d
    sum_parts a b x y z d p q r = omega arith

-- so many digits stand for less than that power
pub value_below : (base : ℕ) (word : List ℕ) → AreDigits base word → value base (map digit word) < base ^ length word
value_below base [] are = rw (pow-zero base) (lit< tt)
value_below base (byte ∷ word) are =
    let parts = and_parts (is_digit base byte) (list_all (is_digit base) word) are in
    let power = base ^ length word in
    let same : base ^ length (map digit word) ≡ power = ap (λ n. base ^ n) (length-map word digit) in
    let front : digit byte * base ^ length (map digit word) ≡ digit byte * power = ap (λ n. digit byte * n) same in
    let rest = value_below base word parts.1 in
    let most : (digit byte + 1) * power ≤ base * power = mul-le-mul_right power (omega (arith, ltb-true (digit byte) base parts.0)) in
    let one : (digit byte + 1) * power ≡ digit byte * power + power = add-mul (digit byte) 1 power ∙ ap (λ n. digit byte * power + n) (one-mul power) in
    let whole : base ^ length (byte ∷ word) ≡ base * power = pow-succ' base (length word) in
    below_parts (digit byte * base ^ length (map digit word)) (value base (map digit word)) (digit byte * power) power ((digit byte + 1) * power) (base * power) (base ^ length (byte ∷ word)) front rest most one whole
  where
    below_parts : (a v x p y z w : ℕ) → a ≡ x → v < p → y ≤ z → y ≡ x + p → w ≡ z → a + v < w
    below_parts a v x p y z w e f g h i = omega arith

-- numbers of at most ten digits stay small
pub value_small : (base : ℕ) (word : List ℕ) → base ≤ 16 → length word ≤ 10 → AreDigits base word → value base (map digit word) < 16 ^ length word
value_small base word small short are = lt-le (value_below base word are) (pow-le-pow_left small (length word))
  where
    lt-le : {a b c : ℕ} → a < b → b ≤ c → a < c
    lt-le p q = omega arith

pub ten_digits : (n count : ℕ) → n < 16 ^ count → count ≤ 10 → n < 1099511627776
ten_digits n count below short = omega (arith, pow-le-pow_right {n = 16} (lit< tt) short)

pub times_fits : (base n : ℕ) → base ≤ 16 → n < 1099511627776 → base * n ≤ 17592186044416
times_fits base n small below = omega (arith, mul-le-mul_right n small)

-- ---- the loop over a word

pub digits_more : (base : ℕ) (word : List ℕ) (i d : ℕ) → i < length word → AreDigits base (take i word) → digit (get_or word i d) < base → AreDigits base (take (i + 1) word)
digits_more base word i d within are next = list_all_more (is_digit base) word i d within ∙ rw (are, lt-ltb (digit (get_or word i d)) base next) refl

pub value_more : (base : ℕ) (word : List ℕ) (i d n : ℕ) → i < length word → n ≡ value base (map digit (take i word))
    → base * n + digit (get_or word i d) ≡ value base (map digit (take (i + 1) word))
value_more base word i d n within is =
    ap (λ m. base * m + digit (get_or word i d)) is ∙ sym (ap (λ (ds : List ℕ). value base (map digit ds)) (take_more word i d within)
    ∙ ap (value base) (map_push digit (take i word) (get_or word i d)) ∙ value-push base (map digit (take i word)) (digit (get_or word i d)))

pub numeral_ends : (base : ℕ) (word : List ℕ) → AreDigits base word → numeral base word ≡ Some (value base (map digit word))
unfolding numeral
numeral_ends base word are = rw are refl

pub numeral_fails : (base : ℕ) (word : List ℕ) (i d : ℕ) → i < length word → base ≤ digit (get_or word i d) → numeral base word ≡ None
unfolding numeral
numeral_fails base word i d within none = rw (list_all_at (is_digit base) word i d within (le-ltb (digit (get_or word i d)) base none)) refl

pub whole_word : (word : List ℕ) (i : ℕ) → length word ≤ i → take i word ≡ word
whole_word word i past = grind (arith, common_steps)
