use Rattle.std.proofs.Common.{◌*◌, ap}
use Rattle.rgb_encoders.proofs.Rows.{colours_block_more}
use Rattle.rgb_encoders.proofs.blocks.push_row_blocks.Goals as goal

pub loop-block-preserved : goal.loop-block-preserved
loop-block-preserved c =
    colours_block_more c.args.coding c.args.row.now _ c.loop-block.pixels.items c.push_colours.new.pixels.items c.loop-block.block (16 * c.pixel_size.result)
    (ap (λ n. 16 * n) c.pixel_size.ensures) c.loop-block.invariant c.in_ok-push_colours.ensures
