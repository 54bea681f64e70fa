use Rattle.session_steps.proofs.LinesPainted.{paint_keeps, paint_fits}
use Rattle.session_steps.proofs.laws.a_paint_line_keeps_a_session.Goals as goal

pub returns-clause-keeps : goal.returns-clause-keeps
returns-clause-keeps g c = paint_keeps c.a_paint_line_keeps_a_connection.ensures c.a_change_keeps_a_connection.ensures.told c.a_change_keeps_a_client.ensures.stays c.a_change_keeps_marks.ensures

pub returns-clause-fits : goal.returns-clause-fits
returns-clause-fits g c = paint_fits c.a_change_keeps_a_client.ensures.fits
