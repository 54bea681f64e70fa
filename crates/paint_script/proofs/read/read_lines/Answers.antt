use Rattle.std.proofs.Common.{sym, arith}
use Rattle.std.proofs.lemmas.Bool.{eqb-true}
use Rattle.std.proofs.lemmas.List.{nil_from_length}
use Rattle.paint_script.proofs.Texts.{script_long, read_none, read_more, read_fails, read_all}
use Rattle.paint_script.proofs.read.read_lines.Goals as goal

pub returns-then-text-gt-MOST_BYTES : goal.returns-then-text-gt-MOST_BYTES
returns-then-text-gt-MOST_BYTES c = script_long c.args.text.now (omega arith)

pub loop-rest-init : goal.loop-rest-init
loop-rest-init c = rw c.in_ok-reader.ensures (read_none c.args.text.now)

pub returns-in-Err : goal.returns-in-Err
returns-in-Err c = rw c.failed_at.ensures
    (read_fails c.args.text.now c.loop-rest.reader c.loop-rest.place c.loop-rest.rest.now c.first_line.result.0.now c.first_line.result.1.now c.in-Err.error (omega arith) c.loop-rest.invariant
    c.first_line.ensures.lines c.in-Err.ensures)

pub loop-rest-preserved : goal.loop-rest-preserved
loop-rest-preserved c =
    read_more c.args.text.now c.loop-rest.reader c.in-Ok.reader c.loop-rest.place c.loop-rest.rest.now c.first_line.result.0.now c.first_line.result.1.now c.loop-rest.invariant
    c.first_line.ensures.lines c.first_line.ensures.less c.in-Ok.ensures

pub returns : goal.returns
returns c = rw c.into_script.ensures
    (read_all c.args.text.now c.loop-rest.reader c.loop-rest.place c.loop-rest.rest.now (omega arith) c.loop-rest.invariant
    (nil_from_length c.loop-rest.rest.now (eqb-true _ 0 (sym c.loop-rest-test.ensures))))
