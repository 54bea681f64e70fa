use Rattle.rect_regions.proofs.Marks.{without_within}
use Rattle.rect_regions.proofs.bit_region.BitRegionPoints.subtract_rect.Goals as goal

pub combined-requires-clause-all : goal.combined-requires-clause-all
combined-requires-clause-all c = rw (c.wide-wide.ensures.value, c.high-high.ensures.value) (without_within c.args.self.now c.args.r)
