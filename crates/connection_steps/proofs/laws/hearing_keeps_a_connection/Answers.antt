use Rattle.connection_steps.proofs.Hearing.{hearing_keeps}
use Rattle.connection_steps.proofs.laws.hearing_keeps_a_connection.Goals as goal

pub returns : goal.returns
returns c = hearing_keeps c.what_is_heard_is_what_was_given.ensures.goes_on c.hearing_keeps_what_is_told.ensures c.messages_mark_and_owe_so.ensures.marks c.marks_follow_the_talk.ensures c.marks_stay_true.ensures.begins c.marks_stay_true.ensures.hears
