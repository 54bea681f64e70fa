use Rattle.std.proofs.Common.{arith}
use Rattle.rect_regions.specs.BitRows.{has_mark}
use Rattle.rect_regions.proofs.Counts.{sum_below_few}
use Rattle.rect_regions.proofs.bit_region.BitRegion.count_row.Goals as goal

pub overflow_add-count : goal.overflow_add-count
overflow_add-count c =
    omega (arith, c.loop-x.invariant, c.wide-wide.ensures.kept.across, c.wide-wide.ensures.value, sum_below_few c.loop-x.x (λ x. has_mark c.args.self.now x c.args.y))

pub returns-clause-few : goal.returns-clause-few
returns-clause-few c =
    omega (arith, c.loop-x.invariant, c.wide-wide.ensures.kept.across, c.wide-wide.ensures.value, sum_below_few c.loop-x.x (λ x. has_mark c.args.self.now x c.args.y))
