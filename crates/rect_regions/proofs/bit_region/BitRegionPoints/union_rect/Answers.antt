use Rattle.std.proofs.Common.{◌+◌, ap, arith}
use Rattle.xp_base.specs.Points.{Rectangle}
use Rattle.rect_regions.proofs.Marks.{union_rect_within}
use Rattle.rect_regions.proofs.bit_region.BitRegionPoints.union_rect.Goals as goal

pub combined-requires-clause-all : goal.combined-requires-clause-all
combined-requires-clause-all c =
    let right = ap (λ (r : Rectangle). r.x + r.w) c.r.view_is in
    let bottom = ap (λ (r : Rectangle). r.y + r.h) c.r.view_is in
    union_rect_within c.args.self.now c.args.r c.max-wide.result c.max-high.result (omega (arith, c.wide-own_wide.ensures.value)) (omega (arith, c.high-own_high.ensures.value)) (omega (arith, right)) (omega (arith, bottom))
