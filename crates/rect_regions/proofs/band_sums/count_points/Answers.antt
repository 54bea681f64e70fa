use Rattle.std.proofs.Common.{◌≡◌, ◌+◌, take, get_or, sym, ap, ◌∙◌, arith}
use Rattle.xp_base.specs.Points.{Rectangle, area}
use Rattle.rect_regions.specs.PointSets.{has}
use Rattle.rect_regions.specs.PointSets.{count_of}
use Rattle.rect_regions.proofs.Areas.{count_of-few, count_of-none, count_of-take_more, count_more}
use Rattle.rect_regions.proofs.band_sums.count_points.Goals as goal

pub overflow_add-count : goal.overflow_add-count
overflow_add-count c = omega (arith, c.loop-i.invariant, count_of-few (has (take c.loop-i.i c.args.rects.now)))

pub loop-i-init : goal.loop-i-init
loop-i-init c = sym count_of-none

pub loop-i-preserved : goal.loop-i-preserved
loop-i-preserved c =
    let rects = c.args.rects.now in
    let i = c.loop-i.i in
    let r : Rectangle = c.index-rects-i.result in
    let item : c.from-count.result ≡ area (get_or rects i r) = c.from-count.ensures ∙ c.area.ensures.value ∙ ap (λ (t : Rectangle). area t) c.index-rects-i.is in
    count_more c.loop-i.count c.from-count.result (count_of (has (take (i + 1) rects))) (count_of (has (take i rects))) (area (get_or rects i r)) c.loop-i.invariant item
    (count_of-take_more rects i r c.requires c.loop-i-test.true)
