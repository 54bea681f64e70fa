use Rattle.std.proofs.Common.{ℕ, ◌<◌, ◌^◌, get_or}
use Rattle.window_model.proofs.rows.see_colours.Given as goal

abbrev pub invariant-loop-pixel : goal.invariant-loop-pixel
invariant-loop-pixel l = (k d : ℕ) → k < l.pixel-index → get_or l.pixels k d < 2 ^ 24
