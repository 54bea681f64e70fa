use Rattle.std.proofs.Common.{◌≡◌, ◌+◌, ◌<◌, ℕ, ◌&&◌, ◌||◌, false, length, get_or}
use Rattle.std.specs.Prelude.{nat_le, nat_lt}
use Rattle.client_connection.proofs.points.mark_run.Given as goal

abbrev pub invariant-loop-i : goal.invariant-loop-i
invariant-loop-i l = record {
  sized : length l.marks.items ≡ length l.initial.marks.items;
  run : (k : ℕ) → k < length l.initial.marks.items
      → get_or l.marks.items k false ≡ ((nat_le l.start k && nat_lt k (l.start + l.i)) || get_or l.initial.marks.items k false);
}
