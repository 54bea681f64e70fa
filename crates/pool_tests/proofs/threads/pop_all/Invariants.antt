use Rattle.encode_pool.specs.Passes.{IsPassIn}
use Rattle.pool_tests.proofs.threads.pop_all.Given as goal

abbrev pub invariant-loop : goal.invariant-loop
invariant-loop g l = IsPassIn l.queue l.side.pass
