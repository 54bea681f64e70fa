use Rattle.std.proofs.Common.{◌||◌}
use Rattle.delivery_model.specs.Grids.{has}
use Rattle.delivery_model.specs.Events.{jobs_relieve}
use Rattle.delivery_model.proofs.Grids.{has-points}
use Rattle.delivery_model.proofs.laws.giving_back_moves_reliefs.Goals as goal

pub returns-clause-pending : goal.returns-clause-pending
returns-clause-pending c now w x y = has-points w.desk.wide w.desk.high (λ x y. has w.pending x y || jobs_relieve w.jobs x y) x y
