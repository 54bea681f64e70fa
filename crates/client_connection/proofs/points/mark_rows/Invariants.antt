use Rattle.std.proofs.Common.{◌≡◌, ℕ, ◌<◌, ◌||◌, false, length, get_or}
use Rattle.xp_base.specs.Grid.{is_place_in}
use Rattle.client_connection.proofs.points.mark_rows.Given as goal

abbrev pub invariant-loop-row : goal.invariant-loop-row
invariant-loop-row l = record {
  sized : length l.marks.items ≡ length l.initial.marks.items;
  each : (k : ℕ) → k < length l.initial.marks.items
      → get_or l.marks.items k false ≡ (is_place_in l.wide (record { x = l.start; y = l.first; w = l.count; h = l.row }) k || get_or l.initial.marks.items k false);
}
