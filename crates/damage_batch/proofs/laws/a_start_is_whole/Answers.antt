use Rattle.damage_batch.proofs.DeliveryLemmas.{start_pends}
use Rattle.damage_batch.proofs.laws.a_start_is_whole.Goals as goal

pub returns : goal.returns
returns g c = start_pends (record {
  have = c.points_are_their_tests.ensures.point;
  alike = c.points_are_their_tests.ensures.alike;
  empty = c.empty_sets_have_no_point.ensures.empty;
  none = c.empty_sets_have_no_point.ensures.none;
}) g.R.Points.has
