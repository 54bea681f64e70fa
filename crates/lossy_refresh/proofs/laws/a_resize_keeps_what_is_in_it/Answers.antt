use Rattle.lossy_refresh.proofs.DeliveryLemmas.{kept_resized}
use Rattle.lossy_refresh.proofs.laws.a_resize_keeps_what_is_in_it.Goals as goal

pub returns : goal.returns
returns g c = kept_resized (record {
  have = c.points_are_their_tests.ensures.point;
  alike = c.points_are_their_tests.ensures.alike;
  empty = c.empty_sets_have_no_point.ensures.empty;
  none = c.empty_sets_have_no_point.ensures.none;
}) g.R.Points.has
