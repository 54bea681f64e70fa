use Rattle.std.proofs.Common.{◌≡◌}
use Rattle.encode_pool.specs.Working.{after_jobs}
use Rattle.encode_pool.proofs.working.work.Given as goal

abbrev pub invariant-loop : goal.invariant-loop
invariant-loop g l = g.D.Desk2Work.board l.board ≡ after_jobs l.filed (g.D.Desk2Work.board l.initial.board)
