use Rattle.std.proofs.Common.{◌≡◌, ◌*◌, take}
use Rattle.xp_base.specs.declared.coding.Coding.TheVariants.{Exact}
use Rattle.rgb_encoders.specs.PixelBytes.{coded_bytes}
use Rattle.rgb_encoders.proofs.plain.write_exact.Given as goal

abbrev pub invariant-loop-i : goal.invariant-loop-i
invariant-loop-i l = take (l.i * 4) l.bytes ≡ coded_bytes Exact (take l.i l.pixels)
