use Rattle.std.proofs.Common.{◌≡◌, ◌≤◌, ◌+◌, ◌-◌, length, ap, arith}
use Rattle.std.proofs.lemmas.Bool.Decides.{nat_tests}
use Rattle.xp_base.specs.Points.{Rectangle}
use Rattle.rect_regions.specs.Bands.{Each}
use Rattle.rect_regions.specs.Making.{EndsBy}
use Rattle.rect_regions.proofs.StretchSteps.{ends_by_lowest}
use Rattle.rect_regions.proofs.Rects.{Each-weaker}
use Rattle.rect_regions.proofs.Places.{Each-at}
use Rattle.rect_regions.proofs.sweep.bottom_row.Goals as goal

pub returns-clause-ends : goal.returns-clause-ends
returns-clause-ends c =
    let r : Rectangle = c.index-rects-rects.result in
    let some : 1 ≤ length c.args.rects.now = grind (arith, nat_tests) in
    let top : c.last.inside.y ≡ r.y = cc (ap (λ (q : Rectangle). q.y) c.last.view_is) in
    let high : c.last.inside.h ≡ r.h = cc (ap (λ (q : Rectangle). q.h) c.last.view_is) in
    let ends = ends_by_lowest c.args.rects.now (length c.args.rects.now - 1) r c.requires (omega arith) (omega arith) in
    let named : Each (EndsBy (r.y + r.h)) c.args.rects.now = rw c.index-rects-rects.is ends in
    Each-weaker (EndsBy (r.y + r.h)) (EndsBy (c.last.inside.y + c.last.inside.h)) (λ s h. omega arith) c.args.rects.now named

pub returns-clause-least : goal.returns-clause-least
returns-clause-least c =
    let r : Rectangle = c.index-rects-rects.result in
    let some : 1 ≤ length c.args.rects.now = grind (arith, nat_tests) in
    let top : c.last.inside.y ≡ r.y = cc (ap (λ (q : Rectangle). q.y) c.last.view_is) in
    let high : c.last.inside.h ≡ r.h = cc (ap (λ (q : Rectangle). q.h) c.last.view_is) in
    λ row ends.
    let at = Each-at (EndsBy row) c.args.rects.now (length c.args.rects.now - 1) r ends (omega arith) in
    let named : EndsBy row r = rw c.index-rects-rects.is at in
    omega arith
