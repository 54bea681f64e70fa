use Rattle.std.proofs.Common.{◌∙◌, sym, ap, subst, arith, length, ◌≡◌, ◌∷◌, [], Ok}
use Rattle.std.proofs.lemmas.Bool.{eqb-true}
use Rattle.std.proofs.lemmas.Result.{err_from_is_err_and}
use Rattle.std.proofs.lemmas.List.{length_push, nil_from_length}
use Rattle.first_script.specs.Text.{lines_of}
use Rattle.first_script.specs.Reading.{Fails, script_after, script_of}
use Rattle.first_script.proofs.Steps.{script_fails, script_more, script_ends, script_whole}
use Rattle.first_script.proofs.read.read_lines.Goals as goal

pub returns-in_err-take : goal.returns-in_err-take
returns-in_err-take c =
    let p = err_from_is_err_and c.from_residual.result c.from_residual.ensures.1 in
    let e = c.in_err-take.field-0.0 in
    let fails : Fails e (script_after c.loop-rest.reader (c.first_line.result.0.now ∷ lines_of c.first_line.result.1.now)) =
    script_fails e c.loop-rest.reader c.first_line.result.0.now (lines_of c.first_line.result.1.now) c.in_err-take.ensures.0 in
    let all : script_after c.loop-rest.reader (c.first_line.result.0.now ∷ lines_of c.first_line.result.1.now) ≡ script_of c.args.text.now =
    ap (script_after c.loop-rest.reader) (sym c.first_line.ensures.lines) ∙ c.loop-rest.invariant.reads ∙ sym (script_whole c.args.text.now (omega arith)) in
    rw (p.1, p.2) (subst (Fails e) all fails)

pub loop-rest-preserved : goal.loop-rest-preserved
loop-rest-preserved c =
    let taken = c.in_ok-take.ensures in
    let line = c.first_line.result.0.now in
    let after = c.first_line.result.1.now in
    record {
      few = omega (arith, ap length taken.2, length_push c.loop-rest.reader taken.0, c.first_line.ensures.less, c.loop-rest.invariant.few);
      reads = rw taken.2 (sym (script_more c.loop-rest.reader line (lines_of after) taken.0 taken.1) ∙ ap (script_after c.loop-rest.reader) (sym c.first_line.ensures.lines) ∙ c.loop-rest.invariant.reads);
    }

pub returns : goal.returns
returns c =
    let none : c.loop-rest.rest.now ≡ [] = nil_from_length c.loop-rest.rest.now (eqb-true (length c.loop-rest.rest.now) 0 (sym c.loop-rest-test.ensures)) in
    script_whole c.args.text.now (omega arith) ∙ sym c.loop-rest.invariant.reads ∙ ap (λ rest. script_after c.loop-rest.reader (lines_of rest)) none
    ∙ script_ends c.loop-rest.reader ∙ ap Ok (sym c.into_vec.ensures)
