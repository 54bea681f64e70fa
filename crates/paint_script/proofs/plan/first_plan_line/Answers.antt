use Rattle.std.proofs.Common.{◌∙◌, sym}
use Rattle.std.proofs.lemmas.Bool.{eqb-true}
use Rattle.std.proofs.lemmas.List.{nil_from_length}
use Rattle.paint_script.proofs.Texts.{searched_here, searched_all}
use Rattle.paint_script.proofs.plan.first_plan_line.Goals as goal

pub returns-then-branch : goal.returns-then-branch
returns-then-branch c =
    searched_here c.args.text.now c.loop-rest.number c.loop-rest.rest.now c.first_line.result.0.now c.first_line.result.1.now c.loop-rest.invariant c.first_line.ensures.lines
    (sym c.in_ok-is_plan.ensures ∙ c.if-branch.true)

pub returns : goal.returns
returns c = searched_all c.args.text.now c.loop-rest.number c.loop-rest.rest.now c.loop-rest.invariant
    (nil_from_length c.loop-rest.rest.now (eqb-true _ 0 (sym c.loop-rest-test.ensures)))
