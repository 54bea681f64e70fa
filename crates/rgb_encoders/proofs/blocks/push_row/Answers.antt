use Rattle.std.proofs.Common.{◌-◌, ◌*◌, ◌/◌, ap, arith}
use Rattle.rgb_encoders.proofs.Rows.{parts_decoded}
use Rattle.rgb_encoders.proofs.blocks.push_row.Goals as goal

pub returns : goal.returns
returns c =
    parts_decoded c.args.coding c.args.row.now _ _ _ (c.args.count / 16 * 16) (c.args.count - c.args.count / 16 * 16) c.args.count _
    (omega arith) (ap (λ n. c.args.count / 16 * 16 * n) c.pixel_size-size.ensures) c.in_ok-push_row_blocks.ensures c.in_ok-push_row_pixels.ensures
