use Rattle.std.proofs.Common.{◌+◌, ◌*◌, ◌<◌, ◌≤◌, refl, sym, ap, ◌∙◌, arith, get_or}
use Rattle.bencode_values.specs.Reading.{range_of}
use Rattle.bencode_values.specs.Steps.{answer_of, number}
use Rattle.bencode_values.proofs.Going.{go_on, go_bad, go_short, number_digit, number_over, number_end, number_other}
use Rattle.bencode_values.proofs.number.digits_at.Goals as goal

pub returns-then-number-limit-clause-comes : goal.returns-then-number-limit-clause-comes
returns-then-number-limit-clause-comes c opens =
    let limit = c.loop-at.invariant.limit in let more = c.if-number-limit.true in
    let over : range_of c.args.negative < 10 * c.loop-at.number + c.in-Digit.digit = omega arith in
    ap answer_of (c.loop-at.invariant.so_far opens)
    ∙ go_bad c.args.bytes.now c.loop-at.at opens (number c.args.negative c.loop-at.number) _ c.loop-at-test.true (number_over _ opens _ c.loop-at.number (get_or c.args.bytes.now c.loop-at.at 0) c.in-Digit.digit (sym c.in-Digit.ensures) over)

pub returns-in-End-clause-comes : goal.returns-in-End-clause-comes
returns-in-End-clause-comes c opens =
    let from = c.loop-at.auto.at in let inside = c.loop-at-test.true in (
      omega arith,
      omega arith,
      c.loop-at.invariant.so_far opens
          ∙ go_on c.args.bytes.now c.loop-at.at opens (number c.args.negative c.loop-at.number) _ inside (number_end _ opens _ c.loop-at.number (get_or c.args.bytes.now c.loop-at.at 0) (sym c.in-End.ensures)),
    )

pub returns-in_default : goal.returns-in_default
returns-in_default c = record {
  comes = λ opens. ap answer_of (c.loop-at.invariant.so_far opens)
      ∙ go_bad c.args.bytes.now c.loop-at.at opens (number c.args.negative c.loop-at.number) _ c.loop-at-test.true
      (number_other _ opens _ c.loop-at.number (get_or c.args.bytes.now c.loop-at.at 0) c.mark_at.result c.mark_at.ensures c.in_default.not-End c.in_default.not-Digit);
  in_range = tt;
}

pub loop-at-preserved : goal.loop-at-preserved
loop-at-preserved c =
    let limit = c.loop-at.invariant.limit in let less = c.if-number-limit.false in let positive = c.loop-at.invariant.positive in
    let fits : 10 * c.loop-at.number + c.in-Digit.digit ≤ range_of c.args.negative = omega arith in
    record {
      limit = c.loop-at.invariant.limit;
      positive = omega arith;
      in_range = fits;
      end = refl;
      so_far = λ opens. c.loop-at.invariant.so_far opens
          ∙ go_on c.args.bytes.now c.loop-at.at opens (number c.args.negative c.loop-at.number) _ c.loop-at-test.true
          (number_digit _ opens _ c.loop-at.number (get_or c.args.bytes.now c.loop-at.at 0) c.in-Digit.digit (sym c.in-Digit.ensures) fits);
    }

pub returns-clause-comes : goal.returns-clause-comes
returns-clause-comes c opens = ap answer_of (c.loop-at.invariant.so_far opens) ∙ go_short c.args.bytes.now c.loop-at.at opens (number c.args.negative c.loop-at.number) c.loop-at-test.false
