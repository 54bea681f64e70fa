use Rattle.lossy_refresh.proofs.DeliveryLemmas.{queued_lossy, relief_joined}
use Rattle.lossy_refresh.proofs.laws.draws_are_the_models.Goals as goal

pub returns-clause-lossy : goal.returns-clause-lossy
returns-clause-lossy g c = queued_lossy (record {
  have = c.points_are_their_tests.ensures.point;
  alike = c.points_are_their_tests.ensures.alike;
  empty = c.empty_sets_have_no_point.ensures.empty;
  none = c.empty_sets_have_no_point.ensures.none;
}) g.R.Points.has

pub returns-clause-relief : goal.returns-clause-relief
returns-clause-relief g c = relief_joined (record {
  have = c.points_are_their_tests.ensures.point;
  alike = c.points_are_their_tests.ensures.alike;
  empty = c.empty_sets_have_no_point.ensures.empty;
  none = c.empty_sets_have_no_point.ensures.none;
}) g.R.Points.has
