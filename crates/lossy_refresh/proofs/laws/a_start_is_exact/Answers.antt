use Rattle.lossy_refresh.proofs.DeliveryLemmas.{start_exact}
use Rattle.lossy_refresh.proofs.laws.a_start_is_exact.Goals as goal

pub returns : goal.returns
returns g c = start_exact (record {
  have = c.points_are_their_tests.ensures.point;
  alike = c.points_are_their_tests.ensures.alike;
  empty = c.empty_sets_have_no_point.ensures.empty;
  none = c.empty_sets_have_no_point.ensures.none;
}) g.R.Points.has
