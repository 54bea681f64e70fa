use Rattle.session_steps.proofs.Drawn.{draw_keeps}
use Rattle.session_steps.proofs.settling.drawing_keeps_a_session.Goals as goal

pub returns : goal.returns
returns g c = draw_keeps (record {
  stay = c.causes_stay.ensures;
  count_earlier = c.causes_count_from_earlier.ensures;
  any_desk = c.only_settled_speaks_of_the_desktop.ensures;
}) c.a_paint_line_keeps_a_connection.ensures c.drawing_keeps_a_client.ensures.told c.drawing_keeps_a_client.ensures.marks
