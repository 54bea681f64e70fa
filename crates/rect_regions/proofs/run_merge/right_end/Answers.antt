use Rattle.std.proofs.Common.{◌≡◌, ◌≤◌, ◌+◌, ◌-◌, length, ap, arith}
use Rattle.std.proofs.lemmas.Bool.Decides.{nat_tests}
use Rattle.xp_base.specs.Points.{Rectangle}
use Rattle.rect_regions.specs.Bands.{Each}
use Rattle.rect_regions.proofs.RunMerges.{ends_by_last}
use Rattle.rect_regions.proofs.Rects.{Each-weaker}
use Rattle.rect_regions.proofs.run_merge.right_end.Goals as goal

pub returns-clause-ends : goal.returns-clause-ends
returns-clause-ends c =
    let r : Rectangle = c.index-band-band.result in
    let some : 1 ≤ length c.args.band.now = grind (arith, nat_tests) in
    let left : c.last.inside.x ≡ r.x = cc (ap (λ (q : Rectangle). q.x) c.last.view_is) in
    let wide : c.last.inside.w ≡ r.w = cc (ap (λ (q : Rectangle). q.w) c.last.view_is) in
    let ends = ends_by_last c.args.band.now (length c.args.band.now - 1) r c.requires (omega arith) (omega arith) in
    let named : Each (λ (s : Rectangle). s.x + s.w ≤ r.x + r.w) c.args.band.now = rw c.index-band-band.is ends in
    Each-weaker (λ (s : Rectangle). s.x + s.w ≤ r.x + r.w) (λ (s : Rectangle). s.x + s.w ≤ c.last.inside.x + c.last.inside.w) (λ s h. omega arith) c.args.band.now named
