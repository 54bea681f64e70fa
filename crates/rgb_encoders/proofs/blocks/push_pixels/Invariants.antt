use Rattle.std.proofs.Common.{◌≡◌, ◌++◌, take}
use Rattle.rgb_encoders.specs.PixelBytes.{coded_bytes}
use Rattle.rgb_encoders.proofs.blocks.push_pixels.Given as goal

abbrev pub invariant-loop-i : goal.invariant-loop-i
invariant-loop-i l = l.bytes.items ≡ l.initial.bytes.items ++ coded_bytes l.coding (take l.i l.pixels)
