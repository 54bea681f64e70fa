use Rattle.std.proofs.Common.{◌≡◌, true, false, List, [], ◌∷◌, take, get_or, sym, subst, refl}
use Rattle.xp_base.specs.Points.{Rectangle}
use Rattle.rect_regions.specs.PointSets.{has}
use Rattle.rect_regions.specs.Bands.{Each}
use Rattle.rect_regions.specs.Sweeping.{Covers}
use Rattle.std.proofs.lemmas.List.{take_more, take_all}
use Rattle.rect_regions.proofs.Rects.{Each-append}
use Rattle.rect_regions.proofs.Places.{Each-at}
use Rattle.rect_regions.proofs.band_covers.covers_all.Goals as goal

pub returns-then-not-covers : goal.returns-then-not-covers
returns-then-not-covers c =
    let set = has c.args.rects.now in
    let r : Rectangle = c.index-others-i.result in (
      λ h. cc,
      λ all.
          let at : Covers set r = subst (Covers set) (sym c.index-others-i.is) (Each-at (Covers set) c.args.others.now c.loop-i.i r all c.loop-i-test.true) in
          let is : c.covers.result ≡ true = c.covers.ensures.1 at in
          let off : c.covers.result ≡ false = c.if-not-covers.true in
          cc,
    )

pub loop-i-preserved : goal.loop-i-preserved
loop-i-preserved c =
    let set = has c.args.rects.now in
    let r : Rectangle = c.index-others-i.result in
    let here : Covers set r = c.covers.ensures.0 c.if-not-covers.false in
    subst (λ (l : List Rectangle). Each (Covers set) l) (sym (take_more c.args.others.now c.loop-i.i r c.loop-i-test.true))
    (Each-append (Covers set) (take c.loop-i.i c.args.others.now) (get_or c.args.others.now c.loop-i.i r ∷ []) c.loop-i.invariant (subst (Covers set) c.index-others-i.is here, tt))

pub returns : goal.returns
returns c =
    let set = has c.args.rects.now in
    (λ h. subst (λ (l : List Rectangle). Each (Covers set) l) (take_all c.loop-i.i c.args.others.now c.loop-i-test.false) c.loop-i.invariant, λ all. refl)
