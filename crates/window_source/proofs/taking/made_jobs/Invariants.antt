use Rattle.std.proofs.Common.{take}
use Rattle.window_source.specs.Taking.{AreMade}
use Rattle.window_source.proofs.taking.made_jobs.Given as goal

abbrev pub invariant-loop-k : goal.invariant-loop-k
invariant-loop-k g l = AreMade g.R.Points.has l.win l.region l.first.0 (take l.k l.plan) l.made.items
