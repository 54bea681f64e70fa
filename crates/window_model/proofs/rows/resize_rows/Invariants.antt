use Rattle.std.proofs.Common.{◌≡◌, ℕ, ◌*◌, ◌/◌, ◌%◌, ◌<◌, ◌&&◌, length, get_or, cond, ltb}
use Rattle.xp_base.specs.Grid.{place_of}
use Rattle.window_model.proofs.rows.resize_rows.Given as goal

abbrev pub invariant-loop-row : goal.invariant-loop-row
invariant-loop-row l = record {
  sized : length l.resized.items ≡ l.wide * l.high;
  each : (k : ℕ) → k < l.wide * l.high
      → get_or l.resized.items k 0 ≡ cond (ltb (k % l.wide) l.count && ltb (k / l.wide) l.row) (get_or l.pixels (place_of l.wide_before (k % l.wide) (k / l.wide)) 0) 0;
}
