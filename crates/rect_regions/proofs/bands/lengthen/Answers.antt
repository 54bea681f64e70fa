use Rattle.std.proofs.Common.{◌≡◌, ◌<◌, length, get_or, refl, ◌∙◌, arith}
use Rattle.std.proofs.lemmas.List.{length-set}
use Rattle.xp_base.specs.Points.{Rectangle}
use Rattle.rect_regions.specs.Making.{lengthened}
use Rattle.rect_regions.proofs.Places.{Each-drop_at, same_next, lengthen_more, lengthen_rest, lengthen_first, lengthen_all}
use Rattle.rect_regions.proofs.bands.lengthen.Goals as goal

pub loop-i-init : goal.loop-i-init
loop-i-init c = record {
  done = lengthen_first (lengthened c.args.bottom) c.args.from c.args.rects.now.items c.requires.from;
  rest = refl;
  sized = refl;
}

pub lengthened-requires-clause-above : goal.lengthened-requires-clause-above
lengthened-requires-clause-above c =
    let init = c.args.rects.now.items in
    let at : c.loop-i.i < length init = omega (arith, c.loop-i.invariant.sized) in
    let low : c.loop-i.i < length c.loop-i.rects.items = omega (arith, c.loop-i.invariant.sized) in
    let is : c.index-r.result.now ≡ get_or init c.loop-i.i c.index-r.result.now =
    c.index-r.ensures ∙ same_next c.loop-i.rects.items init c.loop-i.i c.index-r.result.now low c.loop-i.invariant.sized c.loop-i.invariant.rest in
    rw is (Each-drop_at (λ (r : Rectangle). r.y < c.args.bottom) init c.args.from c.loop-i.i c.index-r.result.now c.requires.above (omega arith) at)

pub loop-i-preserved : goal.loop-i-preserved
loop-i-preserved c =
    let init = c.args.rects.now.items in
    let now = c.loop-i.rects.items in
    let low : c.loop-i.i < length now = omega (arith, c.loop-i.invariant.sized) in
    record {
      done = rw c.lengthened.ensures (lengthen_more (lengthened c.args.bottom) c.args.from c.loop-i.i now init c.index-r.result.now c.index-r.result.now (omega arith) low c.loop-i.invariant.sized c.loop-i.invariant.done c.loop-i.invariant.rest c.index-r.ensures);
      rest = lengthen_rest c.loop-i.i now init c.lengthened.result low c.loop-i.invariant.sized c.loop-i.invariant.rest;
      sized = length-set now c.loop-i.i c.lengthened.result ∙ c.loop-i.invariant.sized;
    }

pub returns : goal.returns
returns c =
    lengthen_all (lengthened c.args.bottom) c.args.from c.loop-i.i c.loop-i.rects.items c.args.rects.now.items c.requires.from (omega (arith, c.loop-i.invariant.sized)) c.loop-i.invariant.sized c.loop-i.invariant.done
