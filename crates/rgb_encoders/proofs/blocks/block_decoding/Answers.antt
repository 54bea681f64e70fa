use Rattle.std.proofs.Common.{◌+◌, ◌*◌, ℕ, List, ◌++◌, ap, ◌∙◌}
use Rattle.std.specs.Prelude.{slice_range}
use Rattle.rgb_encoders.specs.Rows.{row_colours}
use Rattle.rgb_encoders.proofs.Rows.{row_decoded}
use Rattle.rgb_encoders.proofs.blocks.block_decoding.Goals as goal

pub loop-y-preserved : goal.loop-y-preserved
loop-y-preserved c =
    let at = c.loop-y.y * c.args.stride in
    c.in_ok-push_row.ensures
    ∙ ap (λ (front : List ℕ). front ++ row_colours c.args.coding c.args.w (slice_range c.args.bytes.now at (at + c.args.stride))) c.loop-y.invariant
    ∙ row_decoded c.args.coding c.args.w c.args.stride c.args.bytes.now c.loop-y.y c.requires.holds.wide
