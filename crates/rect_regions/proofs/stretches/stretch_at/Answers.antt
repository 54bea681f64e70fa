use Rattle.std.proofs.Common.{◌≡◌, ◌≤◌, ◌+◌, length, ap, arith}
use Rattle.std.proofs.lemmas.Bool.Decides.{nat_tests}
use Rattle.xp_base.specs.Points.{Rectangle}
use Rattle.rect_regions.proofs.StretchSteps.{stretch_gap_at, stretch_band_at}
use Rattle.rect_regions.proofs.stretches.stretch_at.Goals as goal

pub returns-then-top-first : goal.returns-then-top-first
returns-then-top-first c =
    let r : Rectangle = c.index-left-0.result in
    let some : 1 ≤ length c.args.left.now = grind (arith, nat_tests) in
    let at : c.first.inside.y ≡ r.y = cc (ap (λ (q : Rectangle). q.y) c.first.view_is) in
    stretch_gap_at c.args.left.now c.split_at.result.0.now r c.args.top c.first.inside.y c.requires.sorted some c.index-left-0.is at c.if-top-first.true c.split_at.ensures.front

pub returns : goal.returns
returns c =
    let r : Rectangle = c.index-left-0.result in
    let some : 1 ≤ length c.args.left.now = grind (arith, nat_tests) in
    let row : c.first.inside.y ≡ r.y = cc (ap (λ (q : Rectangle). q.y) c.first.view_is) in
    let high : c.first.inside.h ≡ r.h = cc (ap (λ (q : Rectangle). q.h) c.first.view_is) in
    stretch_band_at c.args.left.now c.first_band.result.0.now c.first_band.result.1.now r c.args.top c.first.inside.y (c.first.inside.y + c.first.inside.h)
    c.requires.sorted some c.index-left-0.is (omega arith) row (omega (arith, c.if-top-first.false)) c.requires.reach c.first_band.ensures
