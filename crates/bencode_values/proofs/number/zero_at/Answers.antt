use Rattle.std.proofs.Common.{sym, ap, ◌∙◌, arith, get_or}
use Rattle.bencode_values.specs.Steps.{zero_int, zero_int_step}
use Rattle.bencode_values.proofs.Going.{go_on, go_bad, go_short, zero_int_other}
use Rattle.bencode_values.proofs.number.zero_at.Goals as goal

pub returns-in_default : goal.returns-in_default
returns-in_default c opens =
    go_short c.args.bytes.now c.args.place opens zero_int c.in_default.ensures

pub returns-in_default-mark : goal.returns-in_default-mark
returns-in_default-mark c opens =
    go_bad c.args.bytes.now c.args.place opens zero_int _ c.in-Some.ensures.0 (zero_int_other _ opens (get_or c.args.bytes.now c.args.place 0) c.in-Some.mark c.in-Some.ensures.1 c.in_default-mark.not-End c.in_default-mark.not-Digit)

pub returns-in-Digit : goal.returns-in-Digit
returns-in-Digit c opens =
    go_bad c.args.bytes.now c.args.place opens zero_int _ c.in-Some.ensures.0 (ap (zero_int_step c.args.place opens) (sym c.in-Some.ensures.1 ∙ c.in-Digit.is))

pub returns-in-End : goal.returns-in-End
returns-in-End c opens =
    let inside = c.in-Some.ensures.0 in
    (omega arith, omega arith, go_on c.args.bytes.now c.args.place opens zero_int _ inside (ap (zero_int_step c.args.place opens) (sym c.in-Some.ensures.1 ∙ c.in-End.is)))
