use Rattle.std.proofs.Common.{◌*◌, ap, ◌∙◌}
use Rattle.rgb_encoders.specs.PixelBytes.{colour_at}
use Rattle.rgb_encoders.proofs.Rows.{colour_more}
use Rattle.rgb_encoders.proofs.blocks.push_row_pixels.Goals as goal

pub loop-x-preserved : goal.loop-x-preserved
loop-x-preserved c =
    colour_more c.args.coding c.args.row.now _ c.loop-x.pixels.items c.push.new.self.items c.loop-x.x c.read_pixel.result
    c.loop-x.invariant c.in_ok-push.ensures.items (c.read_pixel.ensures ∙ ap (λ n. colour_at c.args.coding c.args.row.now (c.loop-x.x * n)) c.pixel_size-size.ensures)
