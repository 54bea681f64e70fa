use Rattle.rect_regions.proofs.Marks.{shared_within}
use Rattle.rect_regions.proofs.bit_region.BitRegionPoints.part.Goals as goal

pub combined-requires-clause-all : goal.combined-requires-clause-all
combined-requires-clause-all c = rw (c.wide-wide.ensures.value, c.high-high.ensures.value) (shared_within c.args.self.now c.args.r)
