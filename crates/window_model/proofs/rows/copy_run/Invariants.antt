use Rattle.std.proofs.Common.{◌≡◌, ◌+◌, ◌-◌, ℕ, ◌&&◌, length, get_or, cond}
use Rattle.std.specs.Prelude.{nat_le, nat_lt}
use Rattle.window_model.proofs.rows.copy_run.Given as goal

abbrev pub invariant-loop-i : goal.invariant-loop-i
invariant-loop-i l = record {
  sized : length l.pixels.items ≡ length l.initial.pixels.items;
  run : (k : ℕ) → get_or l.pixels.items k 0 ≡ cond (nat_le l.start k && nat_lt k (l.start + l.i)) (get_or l.numbers (l.from + (k - l.start)) 0) (get_or l.initial.pixels.items k 0);
}
