use Rattle.resize_cancel.proofs.DeliveryLemmas.{given_pends}
use Rattle.resize_cancel.proofs.laws.giving_back_is_damage.Goals as goal

pub returns : goal.returns
returns g c = given_pends g.R.Points.has c.points_are_their_tests.ensures.point c.points_are_their_tests.ensures.alike c.damage_is_pending.ensures.put
