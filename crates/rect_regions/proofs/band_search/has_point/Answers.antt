use Rattle.std.proofs.Common.{sym, ◌∙◌, arith}
use Rattle.rect_regions.proofs.Searches.{has_none, has_place}
use Rattle.rect_regions.proofs.band_search.has_point.Goals as goal

pub returns-then-place-rects : goal.returns-then-place-rects
returns-then-place-rects c =
    sym (has_none c.args.rects.now c.first_not_past-place.result c.args.x c.args.y (omega (arith, c.if-place-rects.true)) c.first_not_past-place.ensures.before)

pub returns : goal.returns
returns c =
    c.contains.ensures
    ∙ sym (has_place c.args.rects.now c.index-rects-place.result c.first_not_past-place.result c.args.x c.args.y c.requires
    (omega (arith, c.if-place-rects.false, c.first_not_past-place.ensures.within)) c.index-rects-place.is c.first_not_past-place.ensures.before c.first_not_past-place.ensures.behind)
