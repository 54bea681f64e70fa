use Rattle.std.proofs.Common.{◌≡◌, ◌++◌, ◌*◌}
use Rattle.paint_script.specs.Generated.{beginning, rounds, state_after}
use Rattle.paint_script.specs.Stage.{IsReady}
use Rattle.paint_script.proofs.generation.generate.Given as goal

abbrev pub invariant-loop-round : goal.invariant-loop-round
invariant-loop-round l = record {
  ready : IsReady l.reader;
  lines : l.reader ≡ beginning ++ rounds l.n l.round;
  state : l.generator ≡ state_after l.n (7 * l.round);
}
