use Rattle.pool_tests.specs.Passes.{IsFirstIn}
use Rattle.pool_tests.proofs.queue.push.Given as goal

abbrev pub invariant-loop-number : goal.invariant-loop-number
invariant-loop-number g l = IsFirstIn l.queue l.first
