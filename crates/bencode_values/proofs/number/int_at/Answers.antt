use Rattle.std.proofs.Common.{◌≡◌, ◌+◌, ◌^◌, ◌<◌, false, drop, sym, ap, ◌∙◌, arith, get_or, to_z, w64}
use Rattle.std.proofs.lemmas.Int.{to_z_pos}
use Rattle.bencode_values.specs.declared.mark.Mark.TheVariants as M
use Rattle.bencode_values.specs.declared.value.Key.TheVariants as K
use Rattle.bencode_values.specs.Steps.{State, going, sign, sign_step, minus, zero_int, number, deliver_key, int_of, feed}
use Rattle.bencode_values.proofs.Going.{go_on, go_bad, go_short, sign_digit, sign_other, comes_on, passes}
use Rattle.bencode_values.proofs.number.int_at.Goals as goal

pub returns-in_default : goal.returns-in_default
returns-in_default c opens =
    go_short c.args.bytes.now c.args.place opens sign c.in_default.ensures

pub returns-in_default-mark : goal.returns-in_default-mark
returns-in_default-mark c opens =
    go_bad c.args.bytes.now c.args.place opens sign _ c.in-Some.ensures.0 (sign_other _ opens (get_or c.args.bytes.now c.args.place 0) c.in-Some.mark c.in-Some.ensures.1 c.in_default-mark.not-Minus c.in_default-mark.not-Digit)

pub returns-in-Minus : goal.returns-in-Minus
returns-in-Minus c opens =
    comes_on c.args.bytes.now c.args.place (c.args.place + 1) (going c.args.place opens sign) (going (c.args.place + 1) opens minus) (λ next n. deliver_key next opens (K.Int n)) c.negative_at.result (omega arith)
    (go_on c.args.bytes.now c.args.place opens sign _ c.in-Some.ensures.0 (ap (sign_step c.args.place opens) (sym c.in-Some.ensures.1 ∙ c.in-Minus.is))) (c.negative_at.ensures opens)

pub returns-then-digit-eq0 : goal.returns-then-digit-eq0
returns-then-digit-eq0 c opens =
    comes_on c.args.bytes.now c.args.place (c.args.place + 1) (going c.args.place opens sign) (going (c.args.place + 1) opens zero_int) (λ next n. deliver_key next opens (K.Int n)) c.zero_at.result (omega arith)
    (go_on c.args.bytes.now c.args.place opens sign _ c.in-Some.ensures.0 (ap (sign_step c.args.place opens) (sym c.in-Some.ensures.1 ∙ c.in-Digit.is ∙ ap M.Digit c.if-digit-eq0.true))) (c.zero_at.ensures opens)

pub returns-in_err-number-in-Digit : goal.returns-in_err-number-in-Digit
returns-in_err-number-in-Digit c opens =
    let positive : 0 < c.in-Digit.digit = let h = c.if-digit-eq0.false in omega arith in
    let t : State = going (c.args.place + 1) opens (number false c.in-Digit.digit) in
    passes c.args.bytes.now c.args.place (c.args.place + 1) (going c.args.place opens sign) t (λ next n. deliver_key next opens (K.Int (int_of false n))) (λ next n. deliver_key next opens (K.Int n)) c.digits_at.result _ c.from_residual.result c.from_residual.ensures.1 c.in_err-number-in-Digit.was
    (go_on c.args.bytes.now c.args.place opens sign t c.in-Some.ensures.0 (ap (sign_step c.args.place opens) (sym c.in-Some.ensures.1 ∙ c.in-Digit.is) ∙ sign_digit c.args.place opens c.in-Digit.digit positive)) (c.digits_at.ensures.comes opens)

pub returns-in_ok-number-in-Digit : goal.returns-in_ok-number-in-Digit
returns-in_ok-number-in-Digit c opens =
    let positive : 0 < c.in-Digit.digit = let h = c.if-digit-eq0.false in omega arith in
    let t : State = going (c.args.place + 1) opens (number false c.in-Digit.digit) in
    let found = c.in_ok-number-in-Digit.ensures.comes opens in
    let after = found.0 in let bound = c.in_ok-number-in-Digit.ensures.in_range in
    let low : c.in_ok-number-in-Digit.number < 2 ^ 63 = omega arith in
    let same : int_of false c.in_ok-number-in-Digit.number ≡ to_z w64 c.in_ok-number-in-Digit.number = sym (to_z_pos w64 c.in_ok-number-in-Digit.number low) in (
      omega arith,
      found.1,
      go_on c.args.bytes.now c.args.place opens sign t c.in-Some.ensures.0 (ap (sign_step c.args.place opens) (sym c.in-Some.ensures.1 ∙ c.in-Digit.is) ∙ sign_digit c.args.place opens c.in-Digit.digit positive)
          ∙ found.2 ∙ ap (λ z. feed (deliver_key c.in_ok-number-in-Digit.next opens (K.Int z)) (drop c.in_ok-number-in-Digit.next c.args.bytes.now)) same,
    )
