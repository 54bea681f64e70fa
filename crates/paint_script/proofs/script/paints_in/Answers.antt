use Rattle.std.proofs.Common.{◌∙◌, ap, ◌++◌, ◌∷◌, [], List}
use Rattle.script_lines.specs.declared.line.Line.{Line}
use Rattle.script_lines.specs.declared.paint.Paint.{Paint}
use Rattle.paint_script.specs.Validity.{paint_lines}
use Rattle.paint_script.proofs.Scripts.{paint_more, none_more}
use Rattle.paint_script.proofs.script.paints_in.Goals as goal
use Rattle.paint_script.proofs.script.paints_in.Goals.{in-Paint+in_ok-push-in-Paint, in-Peer, in-Plan}

pub loop-line-preserved : goal.loop-line-preserved
loop-line-preserved c =
    let lines = c.args.lines.now in
    let place = c.loop-line.line-index in
    elim c.match-line.branch [
      | in-Paint+in_ok-push-in-Paint w ↦
          ap (λ v. v.items) w.paints-is ∙ w.in_ok-push-in-Paint.ensures.items ∙ ap (λ (paints : List Paint). paints ++ w.in-Paint.paint ∷ []) c.loop-line.invariant
          ∙ paint_more lines place c.line-item.result w.in-Paint.paint c.loop-line-test.true c.line-item.is w.in-Paint.is
      | in-Peer w ↦
          ap (λ v. v.items) w.paints-is ∙ c.loop-line.invariant
          ∙ none_more lines place c.line-item.result c.loop-line-test.true c.line-item.is (ap (λ (l : Line). paint_lines (l ∷ [])) w.in-Peer.is)
      | in-Plan w ↦
          ap (λ v. v.items) w.paints-is ∙ c.loop-line.invariant
          ∙ none_more lines place c.line-item.result c.loop-line-test.true c.line-item.is (ap (λ (l : Line). paint_lines (l ∷ [])) w.in-Plan.is)
    ]
