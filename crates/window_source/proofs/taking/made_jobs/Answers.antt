use Rattle.std.proofs.Common.{◌≡◌, ℕ, ◌+◌, List, [], ◌∷◌, ◌++◌, take, length, sym, ◌∙◌, ap, subst, arith}
use Rattle.std.proofs.lemmas.List.{take_more, length-take-le}
use Rattle.delivery_model.specs.Events.{Planned}
use Rattle.draw_sequencer.specs.InHand.{HeldJob}
use Rattle.window_source.specs.Taking.{IsMade, AreMade}
use Rattle.window_source.proofs.TakingLemmas.{made_more}
use Rattle.window_source.proofs.taking.made_jobs.Goals as goal

pub loop-k-preserved : goal.loop-k-preserved
loop-k-preserved g c =
    let has = g.R.Points.has in
    let k : ℕ = c.loop-k.k in
    let plan : List Planned = c.args.plan.now in
    let p : Planned = c.index-plan-k.result in
    let more : take (k + 1) plan ≡ take k plan ++ p ∷ [] = take_more plan k p c.loop-k-test.true ∙ ap (λ (q : Planned). take k plan ++ q ∷ []) (sym c.index-plan-k.is) in
    let sized : length (take k plan) ≡ k = length-take-le k plan (omega (arith, c.loop-k-test.true)) in
    let one : IsMade has c.args.win.now c.args.region.now (c.args.first.0 + length (take k plan)) p c.in_ok-made_job.field-0 =
    subst (λ n. IsMade has c.args.win.now c.args.region.now (c.args.first.0 + n) p c.in_ok-made_job.field-0) (sym sized) c.in_ok-made_job.ensures in
    let all : AreMade has c.args.win.now c.args.region.now c.args.first.0 (take k plan ++ p ∷ []) (c.loop-k.made.items ++ c.in_ok-made_job.field-0 ∷ []) =
    made_more has c.args.win.now c.args.region.now c.args.first.0 (take k plan) c.loop-k.made.items p c.in_ok-made_job.field-0 c.loop-k.invariant one in
    subst (λ (js : List (HeldJob g.row.R.Denot)). AreMade has c.args.win.now c.args.region.now c.args.first.0 (take (k + 1) plan) js) (sym c.in_ok-push.ensures.items)
    (subst (λ (ps : List Planned). AreMade has c.args.win.now c.args.region.now c.args.first.0 ps (c.loop-k.made.items ++ c.in_ok-made_job.field-0 ∷ [])) (sym more) all)
