use Rattle.std.proofs.Common.{◌≡◌, ◌*◌, ◌++◌}
use Rattle.rgb_encoders.specs.Rows.{row_colours}
use Rattle.rgb_encoders.proofs.blocks.push_row_blocks.Given as goal

abbrev pub invariant-loop-block : goal.invariant-loop-block
invariant-loop-block l = l.pixels.items ≡ l.initial.pixels.items ++ row_colours l.coding (l.block * 16) l.row
