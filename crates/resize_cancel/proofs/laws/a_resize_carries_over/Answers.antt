use Rattle.resize_cancel.proofs.DeliveryLemmas.{carried_pends, carried_points}
use Rattle.resize_cancel.proofs.laws.a_resize_carries_over.Goals as goal

pub returns : goal.returns
returns g c = record {
  batch = carried_pends g.R.Points.has c.points_are_their_tests.ensures.point c.points_are_their_tests.ensures.alike c.damage_is_pending.ensures.put;
  points = carried_points g.R.Points.has c.points_are_their_tests.ensures.point c.points_are_their_tests.ensures.alike c.damage_is_pending.ensures.put;
}
