use Rattle.resize_cancel.proofs.DeliveryLemmas.{reliefs_seen}
use Rattle.resize_cancel.proofs.laws.jobs_relieve_as_the_models.Goals as goal

pub returns : goal.returns
returns g c = reliefs_seen g.R.Points.has c.points_are_their_tests.ensures.point
