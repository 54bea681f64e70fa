use Rattle.std.proofs.Common.{◌≡◌, ◌++◌}
use Rattle.rgb_encoders.specs.Rows.{row_colours}
use Rattle.rgb_encoders.proofs.blocks.push_row_pixels.Given as goal

abbrev pub invariant-loop-x : goal.invariant-loop-x
invariant-loop-x l = l.pixels.items ≡ l.initial.pixels.items ++ row_colours l.coding l.x l.row
