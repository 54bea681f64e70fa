use Rattle.std.proofs.Common.{◌≡◌, ◌≤◌, length, ap, arith}
use Rattle.std.proofs.lemmas.Bool.Decides.{nat_tests}
use Rattle.xp_base.specs.Points.{Rectangle}
use Rattle.rect_regions.proofs.StretchSteps.{top_first}
use Rattle.rect_regions.proofs.sweep.top_row.Goals as goal

pub returns : goal.returns
returns c =
    let r : Rectangle = c.index-rects-0.result in
    let some : 1 ≤ length c.args.rects.now = grind (arith, nat_tests) in
    let at : c.first.inside.y ≡ r.y = cc (ap (λ (q : Rectangle). q.y) c.first.view_is) in
    top_first c.args.rects.now r c.first.inside.y c.requires some c.index-rects-0.is at
