use Rattle.std.proofs.Common.{length, ap, arith}
use Rattle.rect_regions.proofs.Areas.{pieces_bound}
use Rattle.rect_regions.proofs.region.Region.pieces.Goals as goal

pub overflow_cast-result : goal.overflow_cast-result
overflow_cast-result c = omega (arith, pieces_bound c.args.self.now c.list-rects.ensures.sorted, ap length c.list-rects.ensures.list)
