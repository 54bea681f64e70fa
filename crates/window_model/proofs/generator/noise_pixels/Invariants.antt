use Rattle.std.proofs.Common.{◌≡◌, ◌-◌, ◌≤◌, ◌++◌, length}
use Rattle.window_model.specs.Generator.{noise}
use Rattle.window_model.proofs.generator.noise_pixels.Given as goal

abbrev pub invariant-loop-generator : goal.invariant-loop-generator
invariant-loop-generator l = record {
  most : length l.pixels.items ≤ l.count;
  made : noise l.seed l.count ≡ l.pixels.items ++ noise l.generator (l.count - length l.pixels.items);
}

abbrev pub decreases-loop-generator : goal.decreases-loop-generator
decreases-loop-generator l = l.count - length l.pixels.items
