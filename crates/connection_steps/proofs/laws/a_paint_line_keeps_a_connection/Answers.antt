use Rattle.connection_steps.proofs.Changing.{changing_keeps}
use Rattle.connection_steps.proofs.laws.a_paint_line_keeps_a_connection.Goals as goal

pub returns : goal.returns
returns c = changing_keeps c.marks_stay_true.ensures.begins
