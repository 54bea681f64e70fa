use Rattle.std.proofs.Common.{refl, sym, ap, ◌∙◌, arith, get_or}
use Rattle.bencode_values.specs.Steps.{size, answer_of}
use Rattle.bencode_values.proofs.Going.{go_on, go_bad, go_short, size_over, size_digit, size_end, size_other}
use Rattle.bencode_values.proofs.number.length_at.Goals as goal

pub returns-in-Colon-clause-comes : goal.returns-in-Colon-clause-comes
returns-in-Colon-clause-comes c opens =
    let from = c.loop-at.auto.at in let inside = c.loop-at-test.true in (
      omega arith,
      omega arith,
      c.loop-at.invariant.so_far opens
          ∙ go_on c.args.bytes.now c.loop-at.at opens (size c.loop-at.size) _ inside (size_end _ opens c.loop-at.size (get_or c.args.bytes.now c.loop-at.at 0) (sym c.in-Colon.ensures)),
    )

pub returns-in_default : goal.returns-in_default
returns-in_default c =
    record {
      comes = λ opens. ap answer_of (c.loop-at.invariant.so_far opens)
          ∙ go_bad c.args.bytes.now c.loop-at.at opens (size c.loop-at.size) _ c.loop-at-test.true
          (size_other _ opens c.loop-at.size (get_or c.args.bytes.now c.loop-at.at 0) c.mark_at.result c.mark_at.ensures c.in_default.not-Colon c.in_default.not-Digit);
      in_limit = tt;
    }

pub returns-then-size-gt-LONGEST-clause-comes : goal.returns-then-size-gt-LONGEST-clause-comes
returns-then-size-gt-LONGEST-clause-comes c opens =
    ap answer_of (c.loop-at.invariant.so_far opens)
    ∙ go_bad c.args.bytes.now c.loop-at.at opens (size c.loop-at.size) _ c.loop-at-test.true (size_over _ opens c.loop-at.size (get_or c.args.bytes.now c.loop-at.at 0) c.in-Digit.digit (sym c.in-Digit.ensures) c.if-size-gt-LONGEST.true)

pub loop-at-preserved : goal.loop-at-preserved
loop-at-preserved c =
    let positive = c.loop-at.invariant.positive in
    record {
      positive = omega arith;
      in_limit = c.if-size-gt-LONGEST.false;
      end = refl;
      so_far = λ opens. c.loop-at.invariant.so_far opens
          ∙ go_on c.args.bytes.now c.loop-at.at opens (size c.loop-at.size) _ c.loop-at-test.true
          (size_digit _ opens c.loop-at.size (get_or c.args.bytes.now c.loop-at.at 0) c.in-Digit.digit (sym c.in-Digit.ensures) c.if-size-gt-LONGEST.false);
    }

pub returns-clause-comes : goal.returns-clause-comes
returns-clause-comes c opens =
    ap answer_of (c.loop-at.invariant.so_far opens) ∙ go_short c.args.bytes.now c.loop-at.at opens (size c.loop-at.size) c.loop-at-test.false
