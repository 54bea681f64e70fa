use Rattle.std.proofs.Common.{◌∙◌, ◌<◌, ◌≤◌, ℕ, ◌≡◌, ◌*◌, ◌+◌, ◌^◌, take, map, length, sym, ap, subst, arith, List, Some}
use Rattle.std.proofs.lemmas.List.{length-take}
use Rattle.script_lines.specs.Numbers.{digit, value}
use Rattle.script_lines.proofs.Digits.{AreDigits, value_small, ten_digits, times_fits, digits_more, value_more, numeral_ends, numeral_fails, whole_word}
use Rattle.script_lines.proofs.numbers.numeral.Goals as goal

pub returns-then-digit-base-clause-value : goal.returns-then-digit-base-clause-value
returns-then-digit-base-clause-value c = sym (numeral_fails c.args.base c.args.word.now c.loop-byte.byte-index 0 c.loop-byte-test.true (omega (arith, c.digit-digit.ensures.value)))

below : (base n : ℕ) (word : List ℕ) (i : ℕ) → base ≤ 16 → length word ≤ 10 → n ≡ value base (map digit (take i word)) → AreDigits base (take i word) → n < 1099511627776
below base n word i small short is are =
    let len : length (take i word) ≤ 10 = omega (arith, length-take i word) in
    ten_digits n (length (take i word)) (subst (λ m. m < 16 ^ length (take i word)) (sym is) (value_small base (take i word) small len are)) len

pub overflow_mul-number : goal.overflow_mul-number
overflow_mul-number c =
    omega (arith, times_fits c.args.base c.loop-byte.number c.requires.base (below c.args.base c.loop-byte.number c.args.word.now c.loop-byte.byte-index c.requires.base c.requires.short c.loop-byte.invariant.stands_for c.loop-byte.invariant.are))

pub overflow_add-number : goal.overflow_add-number
overflow_add-number c =
    omega (arith, times_fits c.args.base c.loop-byte.number c.requires.base (below c.args.base c.loop-byte.number c.args.word.now c.loop-byte.byte-index c.requires.base c.requires.short c.loop-byte.invariant.stands_for c.loop-byte.invariant.are), c.digit-digit.ensures.small)

pub loop-byte-preserved : goal.loop-byte-preserved
loop-byte-preserved c =
    let is = value_more c.args.base c.args.word.now c.loop-byte.byte-index 0 c.loop-byte.number c.loop-byte-test.true c.loop-byte.invariant.stands_for in
    record {
      stands_for = ap (λ d. c.args.base * c.loop-byte.number + d) c.digit-digit.ensures.value ∙ is;
      are = digits_more c.args.base c.args.word.now c.loop-byte.byte-index 0 c.loop-byte-test.true c.loop-byte.invariant.are (omega (arith, c.digit-digit.ensures.value));
    }

pub returns-clause-value : goal.returns-clause-value
returns-clause-value c =
    let whole = whole_word c.args.word.now c.loop-byte.byte-index c.loop-byte-test.false in
    let are = subst (AreDigits c.args.base) whole c.loop-byte.invariant.are in
    ap Some (c.loop-byte.invariant.stands_for ∙ ap (λ (word : List ℕ). value c.args.base (map digit word)) whole) ∙ sym (numeral_ends c.args.base c.args.word.now are)

pub returns-clause-small : goal.returns-clause-small
returns-clause-small c =
    let whole = whole_word c.args.word.now c.loop-byte.byte-index c.loop-byte-test.false in
    let are = subst (AreDigits c.args.base) whole c.loop-byte.invariant.are in
    subst (λ n. n < 16 ^ length c.args.word.now) (sym (c.loop-byte.invariant.stands_for ∙ ap (λ (word : List ℕ). value c.args.base (map digit word)) whole))
    (value_small c.args.base c.args.word.now c.requires.base c.requires.short are)
