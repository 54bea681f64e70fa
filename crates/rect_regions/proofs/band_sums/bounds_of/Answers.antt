use Rattle.rect_regions.proofs.BandBounds.{bounds_more, bounds_all}
use Rattle.rect_regions.proofs.band_sums.bounds_of.Goals as goal

pub loop-i-preserved : goal.loop-i-preserved
loop-i-preserved c =
    rw c.with_rect.ensures (bounds_more c.args.rects.now c.loop-i.i c.index-rects-i.result c.loop-i.bounds c.requires c.loop-i-test.true c.index-rects-i.is c.loop-i.invariant)

pub returns : goal.returns
returns c = bounds_all c.args.rects.now c.loop-i.i c.loop-i.bounds c.loop-i-test.false c.loop-i.invariant
