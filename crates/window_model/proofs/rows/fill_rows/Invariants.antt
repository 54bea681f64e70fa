use Rattle.std.proofs.Common.{◌≡◌, ℕ, ◌<◌, length, get_or, cond}
use Rattle.xp_base.specs.Grid.{is_place_in}
use Rattle.window_model.proofs.rows.fill_rows.Given as goal

abbrev pub invariant-loop-row : goal.invariant-loop-row
invariant-loop-row l = record {
  sized : length l.pixels.items ≡ length l.initial.pixels.items;
  each : (k : ℕ) → k < length l.initial.pixels.items
      → get_or l.pixels.items k 0 ≡ cond (is_place_in l.wide (record { x = l.r-inside.x; y = l.r-inside.y; w = l.r-inside.w; h = l.row }) k) l.colour (get_or l.initial.pixels.items k 0);
}
