use Rattle.std.proofs.Common.{arith}
use Rattle.rect_regions.proofs.StretchSteps.{below_stay}
use Rattle.rect_regions.proofs.stretches.left_below.Goals as goal

pub returns-else-row-rows : goal.returns-else-row-rows
returns-else-row-rows c =
    below_stay c.args.left.now c.args.rows.bottom c.args.row c.requires.sorted (omega (arith, c.requires.within, c.if-row-rows.false)) c.requires.stretch.within
