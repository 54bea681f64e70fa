use Rattle.std.proofs.Common.{◌≡◌, length, take}
use Rattle.rgb_encoders.proofs.lanes.pixels_of.Given as goal

abbrev pub invariant-loop-i : goal.invariant-loop-i
invariant-loop-i l = (length l.pixels ≡ 16) × (take l.i l.pixels ≡ take l.i l.numbers)
