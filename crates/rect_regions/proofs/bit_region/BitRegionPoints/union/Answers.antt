use Rattle.std.proofs.Common.{arith}
use Rattle.rect_regions.proofs.Marks.{union_within}
use Rattle.rect_regions.proofs.bit_region.BitRegionPoints.union.Goals as goal

pub combined-requires-clause-all : goal.combined-requires-clause-all
combined-requires-clause-all c =
    union_within c.args.self.now c.args.o.now c.max-wide.result c.max-high.result
    (omega (arith, c.wide-own_wide.ensures.value)) (omega (arith, c.high-own_high.ensures.value)) (omega (arith, c.wide-other_wide.ensures.value)) (omega (arith, c.high-other_high.ensures.value))
