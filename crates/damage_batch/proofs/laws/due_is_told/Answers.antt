use Rattle.damage_batch.proofs.DeliveryLemmas.{due_told}
use Rattle.damage_batch.proofs.laws.due_is_told.Goals as goal

pub returns : goal.returns
returns g c = due_told (record {
  have = c.points_are_their_tests.ensures.point;
  alike = c.points_are_their_tests.ensures.alike;
  empty = c.empty_sets_have_no_point.ensures.empty;
  none = c.empty_sets_have_no_point.ensures.none;
}) g.R.Points.has
