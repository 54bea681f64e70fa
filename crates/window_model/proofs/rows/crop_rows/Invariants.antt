use Rattle.std.proofs.Common.{◌≡◌, ℕ, ◌*◌, ◌<◌, length, get_or}
use Rattle.window_model.specs.Drawing.{place_without}
use Rattle.window_model.proofs.rows.crop_rows.Given as goal

abbrev pub invariant-loop-row : goal.invariant-loop-row
invariant-loop-row l = record {
  sized : length l.numbers.items ≡ l.row * l.r-inside.w;
  each : (k : ℕ) → k < l.row * l.r-inside.w → get_or l.numbers.items k 0 ≡ get_or l.pixels (place_without l.wide (record { x = l.r-inside.x; y = l.r-inside.y; w = l.r-inside.w; h = l.r-inside.h }) k) 0;
}
