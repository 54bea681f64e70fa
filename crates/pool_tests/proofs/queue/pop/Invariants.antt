use Rattle.std.proofs.Common.{◌≡◌}
use Rattle.encode_pool.specs.Passes.{seen, IsPassIn}
use Rattle.pool_tests.proofs.queue.pop.Given as goal

abbrev pub invariant-loop-number : goal.invariant-loop-number
invariant-loop-number g l = IsPassIn l.queue l.pass × ((seen l.pass).standing ≡ (seen l.initial.pass).standing)
