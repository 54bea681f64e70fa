use Rattle.pool_tests.specs.Passes.{IsFirstIn}
use Rattle.pool_tests.proofs.threads.push_all.Given as goal

abbrev pub invariant-loop-job : goal.invariant-loop-job
invariant-loop-job g l = IsFirstIn l.queue l.side.pass
