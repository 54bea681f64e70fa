use Rattle.std.proofs.Common.{◌≡◌, ◌≤◌, length, ap, arith}
use Rattle.std.proofs.lemmas.Bool.Decides.{nat_tests}
use Rattle.xp_base.specs.Points.{Rectangle}
use Rattle.rect_regions.proofs.Sweeps.{last_band_at}
use Rattle.rect_regions.proofs.sweep.last_band.Goals as goal

pub returns : goal.returns
returns c =
    let r : Rectangle = c.index-rects-rects.result in
    let some : 1 ≤ length c.args.rects.now = grind (arith, nat_tests) in
    let at : c.last.inside.y ≡ r.y = cc (ap (λ (q : Rectangle). q.y) c.last.view_is) in
    last_band_at c.args.rects.now r c.first_not_past.result c.last.inside.y c.requires some c.index-rects-rects.is at
    c.first_not_past.ensures.within c.first_not_past.ensures.before c.first_not_past.ensures.behind
