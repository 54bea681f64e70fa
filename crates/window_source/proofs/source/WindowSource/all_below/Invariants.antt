use Rattle.std.proofs.Common.{take}
use Rattle.window_source.specs.Capturing.{AllAbove}
use Rattle.window_source.proofs.source.WindowSource.all_below.Given as goal

abbrev pub invariant-loop-k : goal.invariant-loop-k
invariant-loop-k g l = AllAbove l.first.0 (take l.k l.self.jobs)
