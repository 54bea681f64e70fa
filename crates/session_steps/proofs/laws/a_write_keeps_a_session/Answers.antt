use Rattle.session_steps.proofs.Written.{send_keeps}
use Rattle.session_steps.proofs.laws.a_write_keeps_a_session.Goals as goal

pub returns : goal.returns
returns g c = send_keeps (record {
  stay = c.causes_stay.ensures;
  count_earlier = c.causes_count_from_earlier.ensures;
  any_desk = c.only_settled_speaks_of_the_desktop.ensures;
}) c.an_accepted_connection_is_kept.ensures.waiting c.a_write_keeps_a_connection.ensures
