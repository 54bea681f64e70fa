use Rattle.std.proofs.Common.{◌∙◌, sym, ap, arith, Ok}
use Rattle.std.proofs.lemmas.Result.{err_from_is_err_and}
use Rattle.paint_script.proofs.Texts.{take_long, take_fails, take_none, take_refused, take_line}
use Rattle.paint_script.proofs.reader.Reader.take.Goals as goal

pub returns-then-place-ge-MOST_LINES : goal.returns-then-place-ge-MOST_LINES
returns-then-place-ge-MOST_LINES c = take_long c.args.self c.args.place c.args.text.now (omega arith)

pub returns-in_err-line : goal.returns-in_err-line
returns-in_err-line c =
    let p = err_from_is_err_and c.from_residual.result c.from_residual.ensures.1 in
    rw (p.1, p.2) (take_fails c.args.self c.args.place c.args.text.now c.in_err-line.field-0.0 (omega arith) c.in_err-line.ensures)

pub returns-in_default : goal.returns-in_default
returns-in_default c = take_none c.args.self c.args.place c.args.text.now (omega arith) (c.in_ok-line.ensures ∙ ap Ok c.in_default.is)

pub returns-in-Some-fault : goal.returns-in-Some-fault
returns-in-Some-fault c =
    take_refused c.args.self c.args.place c.args.text.now c.in-Some.line c.in-Some-fault.why (omega arith) (c.in_ok-line.ensures ∙ ap Ok c.in-Some.is) (sym c.in-Some-fault.ensures)

pub returns : goal.returns
returns c =
    take_line c.args.self c.in_ok-push.field-0 c.args.place c.args.text.now c.in-Some.line (omega arith) (c.in_ok-line.ensures ∙ ap Ok c.in-Some.is) (sym c.in_default-fault.ensures) c.in_ok-push.ensures
