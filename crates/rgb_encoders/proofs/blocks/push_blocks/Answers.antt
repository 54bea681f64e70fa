use Rattle.rgb_encoders.proofs.Rows.{block_more}
use Rattle.rgb_encoders.proofs.blocks.push_blocks.Goals as goal

pub loop-block-preserved : goal.loop-block-preserved
loop-block-preserved c =
    block_more c.args.coding c.args.pixels.now _ c.loop-block.bytes.items c.push_block.new.bytes.items c.numbers_of.result c.loop-block.block
    c.loop-block.invariant c.in_ok-push_block.ensures c.numbers_of.ensures.same
