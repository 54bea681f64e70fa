use Rattle.std.proofs.Common.{◌≡◌, sym, ap, subst, arith, refl}
use Rattle.xp_base.specs.Points.{Rectangle}
use Rattle.rect_regions.specs.PointSets.{has}
use Rattle.rect_regions.specs.Sweeping.{Covers}
use Rattle.rect_regions.proofs.Coverings.{covers_end, covers_not}
use Rattle.rect_regions.proofs.band_covers.covers.Goals as goal

pub returns-then-next-y : goal.returns-then-next-y
returns-then-next-y c =
    let set = has c.args.rects.now in
    let r : Rectangle = c.loop-y.r in
    let top : c.r-in-loop-y.inside.y ≡ r.y = cc (ap (λ (q : Rectangle). q.y) c.r-in-loop-y.view_is) in
    let high : c.r-in-loop-y.inside.h ≡ r.h = cc (ap (λ (q : Rectangle). q.h) c.r-in-loop-y.view_is) in (
      λ h. cc,
      λ all.
          absurd (covers_not c.args.rects.now r c.loop-y.y c.covered_to-next.result c.loop-y.invariant.from (omega (arith, c.loop-y-test.true)) c.if-next-y.true c.covered_to-next.ensures
          (subst (λ (q : Rectangle). Covers set q) (sym c.loop-y.invariant.same) all)),
    )

pub returns : goal.returns
returns c =
    let set = has c.args.rects.now in
    let r : Rectangle = c.loop-y.r in
    let top : c.r-in-loop-y.inside.y ≡ r.y = cc (ap (λ (q : Rectangle). q.y) c.r-in-loop-y.view_is) in
    let high : c.r-in-loop-y.inside.h ≡ r.h = cc (ap (λ (q : Rectangle). q.h) c.r-in-loop-y.view_is) in (
      λ h. subst (λ (q : Rectangle). Covers set q) c.loop-y.invariant.same (covers_end set r c.loop-y.y (omega (arith, c.loop-y-test.false)) c.loop-y.invariant.rows),
      λ all. refl,
    )
