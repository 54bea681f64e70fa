use Rattle.connection_steps.proofs.Sending.{sending_keeps}
use Rattle.connection_steps.proofs.laws.a_write_keeps_a_connection.Goals as goal

pub returns : goal.returns
returns c = sending_keeps c.each_write_keeps_what_is_told.ensures c.marks_stay_true.ensures.sends c.only_opened_windows_are_shown.ensures
