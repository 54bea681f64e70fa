use Rattle.std.proofs.Common.{◌∙◌, ap, ◌++◌, ◌∷◌, [], List}
use Rattle.first_script.specs.declared.paint.Paint.{Paint}
use Rattle.first_script.proofs.Steps.{paint_more, peer_more}
use Rattle.first_script.proofs.script.paints_in.Goals as goal
use Rattle.first_script.proofs.script.paints_in.Goals.{in-Paint+in_ok-push-in-Paint, in-Peer}

pub loop-line-preserved : goal.loop-line-preserved
loop-line-preserved c =
    let lines = c.args.lines.now in
    let place = c.loop-line.line-index in
    elim c.match-line.branch [
      | in-Paint+in_ok-push-in-Paint w ↦
          ap (λ v. v.items) w.paints-is ∙ w.in_ok-push-in-Paint.ensures.items ∙ ap (λ (paints : List Paint). paints ++ w.in-Paint.paint ∷ []) c.loop-line.invariant
          ∙ paint_more lines place c.line-item.result w.in-Paint.paint c.loop-line-test.true c.line-item.is w.in-Paint.is
      | in-Peer w ↦
          ap (λ v. v.items) w.paints-is ∙ c.loop-line.invariant ∙ peer_more lines place c.line-item.result w.in-Peer.field-0 c.loop-line-test.true c.line-item.is w.in-Peer.is
    ]
