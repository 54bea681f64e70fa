use Rattle.std.proofs.Common.{◌≡◌, ◌<◌, ◌^◌, length, take}
use Rattle.std.specs.List.{AllByRecursion}
use Rattle.rgb_encoders.proofs.lanes.numbers_of.Given as goal

abbrev pub invariant-loop-i : goal.invariant-loop-i
invariant-loop-i l = (length l.numbers ≡ 16) × (take l.i l.numbers ≡ take l.i l.pixels) × AllByRecursion (λ n. n < 2 ^ 24) (take l.i l.numbers)
