use Rattle.rgb_encoders.proofs.Rows.{parts_coded}
use Rattle.rgb_encoders.proofs.blocks.block_encoding.Goals as goal

pub returns : goal.returns
returns c =
    parts_coded c.args.coding c.args.pixels.now _ _ _ _ c.in_ok-bytes.ensures.items c.in_ok-push_blocks.ensures c.in_ok-push_pixels.ensures
