use Rattle.std.proofs.Common.{rules, ◌≡◌, ◌+◌, ◌<◌, true, drop, sym, ap, ◌∙◌, arith, get_or, to_z, of_z, w64}
use Rattle.std.proofs.lemmas.Int.{to_z-of_z}
use Rattle.bencode_values.specs.declared.mark.Mark.TheVariants as M
use Rattle.bencode_values.specs.declared.value.Key.TheVariants as K
use Rattle.bencode_values.specs.Steps.{State, going, minus, minus_step, number, deliver_key, int_of, feed}
use Rattle.bencode_values.proofs.Going.{go_on, go_bad, go_short, minus_digit, minus_other, passes}
use Rattle.bencode_values.proofs.number.negative_at.Goals as goal

pub returns-in_default : goal.returns-in_default
returns-in_default c opens =
    go_short c.args.bytes.now c.args.place opens minus c.in_default.ensures

pub returns-in_default-mark : goal.returns-in_default-mark
returns-in_default-mark c opens =
    go_bad c.args.bytes.now c.args.place opens minus _ c.in-Some.ensures.0 (minus_other _ opens (get_or c.args.bytes.now c.args.place 0) c.in-Some.mark c.in-Some.ensures.1 c.in_default-mark.not-Digit)

pub returns-then-digit-eq0 : goal.returns-then-digit-eq0
returns-then-digit-eq0 c opens =
    go_bad c.args.bytes.now c.args.place opens minus _ c.in-Some.ensures.0 (ap (minus_step c.args.place opens) (sym c.in-Some.ensures.1 ∙ c.in-Digit.is ∙ ap M.Digit c.if-digit-eq0.true))

pub returns-in_err-number-in-Digit : goal.returns-in_err-number-in-Digit
returns-in_err-number-in-Digit c opens =
    let positive : 0 < c.in-Digit.digit = let h = c.if-digit-eq0.false in omega arith in
    let t : State = going (c.args.place + 1) opens (number true c.in-Digit.digit) in
    passes c.args.bytes.now c.args.place (c.args.place + 1) (going c.args.place opens minus) t (λ next n. deliver_key next opens (K.Int (int_of true n))) (λ next n. deliver_key next opens (K.Int n)) c.digits_at.result _ c.from_residual.result c.from_residual.ensures.1 c.in_err-number-in-Digit.was
    (go_on c.args.bytes.now c.args.place opens minus t c.in-Some.ensures.0 (ap (minus_step c.args.place opens) (sym c.in-Some.ensures.1 ∙ c.in-Digit.is) ∙ minus_digit c.args.place opens c.in-Digit.digit positive)) (c.digits_at.ensures.comes opens)

pub returns-in_ok-number-in-Digit : goal.returns-in_ok-number-in-Digit
returns-in_ok-number-in-Digit c opens =
    let positive : 0 < c.in-Digit.digit = let h = c.if-digit-eq0.false in omega arith in
    let t : State = going (c.args.place + 1) opens (number true c.in-Digit.digit) in
    let found = c.in_ok-number-in-Digit.ensures.comes opens in
    let after = found.0 in
    let same : int_of true c.in_ok-number-in-Digit.number ≡ to_z w64 (of_z w64 c.negated.result) = sym (to_z-of_z w64 c.negated.result (search rules) ∙ c.negated.ensures) in (
      omega arith,
      found.1,
      go_on c.args.bytes.now c.args.place opens minus t c.in-Some.ensures.0 (ap (minus_step c.args.place opens) (sym c.in-Some.ensures.1 ∙ c.in-Digit.is) ∙ minus_digit c.args.place opens c.in-Digit.digit positive)
          ∙ found.2 ∙ ap (λ z. feed (deliver_key c.in_ok-number-in-Digit.next opens (K.Int z)) (drop c.in_ok-number-in-Digit.next c.args.bytes.now)) same,
    )
