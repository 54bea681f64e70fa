use Rattle.pool_tests.specs.Passes.{IsFirstIn}
use Rattle.pool_tests.proofs.threads.push_one.Given as goal

abbrev pub invariant-loop : goal.invariant-loop
invariant-loop g l = IsFirstIn l.queue l.side.pass
