use Rattle.std.proofs.Common.{◌≡◌, ◌*◌}
use Rattle.rgb_encoders.proofs.Points.{first_decoded}
use Rattle.rgb_encoders.proofs.blocks.block_decoding.Given as goal

abbrev pub invariant-loop-y : goal.invariant-loop-y
invariant-loop-y l = l.pixels.items ≡ first_decoded l.coding l.w l.stride l.bytes (l.y * l.w)
