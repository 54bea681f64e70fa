use Rattle.std.proofs.Common.{◌≡◌, ℕ, ◌-◌, Bool, true, false, List, length, take, drop, sym, ap, ◌∙◌, arith}
use Rattle.xp_base.specs.Points.{Rectangle}
use Rattle.rect_regions.specs.Making.{IsExtended, goes_on}
use Rattle.rect_regions.proofs.Joinings.{band_slice, ending_slice, join_apart, join_on, ending_above}
use Rattle.rect_regions.proofs.bands.join_band.Goals as goal

-- the answer of the question, as it speaks of the list's parts
asked : (rects one other : List Rectangle) (last start top bottom : ℕ) (b answer : Bool) (ext : IsExtended rects last start top bottom) → one ≡ rects → other ≡ rects
    → answer ≡ goes_on (take (start - last) (drop last one)) (take (length other - start) (drop start other)) top → answer ≡ b
    → goes_on ext.made.ending ext.band top ≡ b
asked rects one other last start top bottom b answer ext same alike is at =
    let before = ap (λ (l : List Rectangle). take (start - last) (drop last l)) same ∙ ending_slice rects last start top bottom ext in
    let band = ap (λ (l : List Rectangle). take (length l - start) (drop start l)) alike ∙ band_slice rects last start top bottom ext in
    sym (ap (λ (l : List Rectangle). goes_on l ext.band top) before) ∙ sym (ap (λ (l : List Rectangle). goes_on (take (start - last) (drop last one)) l top) band) ∙ sym is ∙ at

pub returns-then-not-goes_on-clause-made : goal.returns-then-not-goes_on-clause-made
returns-then-not-goes_on-clause-made c =
    join_apart c.args.rects.now.items c.args.last c.args.start c.args.top c.args.bottom c.requires (λ e. c.if-start-len.false (omega (arith, e, c.len.ensures, c.args.rects.now.ok.0)))
    (asked c.args.rects.now.items c.deref.result.now c.deref-2.result.now c.args.last c.args.start c.args.top c.args.bottom false c.goes_on.result c.requires c.deref.ensures.value c.deref-2.ensures.value c.goes_on.ensures c.if-not-goes_on.true)

pub lengthen-requires-clause-above : goal.lengthen-requires-clause-above
lengthen-requires-clause-above c = rw c.truncate.ensures.items (ending_above c.args.rects.now.items c.args.last c.args.start c.args.top c.args.bottom c.requires)

pub returns-clause-made : goal.returns-clause-made
returns-clause-made c =
    (join_on c.args.rects.now.items c.lengthen.new.rects.items c.args.last c.args.start c.args.top c.args.bottom c.requires
    (asked c.args.rects.now.items c.deref.result.now c.deref-2.result.now c.args.last c.args.start c.args.top c.args.bottom true c.goes_on.result c.requires c.deref.ensures.value c.deref-2.ensures.value c.goes_on.ensures c.if-not-goes_on.false)
    (rw (← c.truncate.ensures.items) c.lengthen.ensures)).0

pub returns-clause-points : goal.returns-clause-points
returns-clause-points c =
    (join_on c.args.rects.now.items c.lengthen.new.rects.items c.args.last c.args.start c.args.top c.args.bottom c.requires
    (asked c.args.rects.now.items c.deref.result.now c.deref-2.result.now c.args.last c.args.start c.args.top c.args.bottom true c.goes_on.result c.requires c.deref.ensures.value c.deref-2.ensures.value c.goes_on.ensures c.if-not-goes_on.false)
    (rw (← c.truncate.ensures.items) c.lengthen.ensures)).1
