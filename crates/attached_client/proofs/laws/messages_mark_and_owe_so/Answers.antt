use Rattle.attached_client.proofs.Marking.{acting_marks, acting_owes}
use Rattle.attached_client.proofs.laws.messages_mark_and_owe_so.Goals as goal

pub returns-clause-marks : goal.returns-clause-marks
returns-clause-marks c = acting_marks c.keyed_finds.ensures

pub returns-clause-owed : goal.returns-clause-owed
returns-clause-owed c = acting_owes (record {
  read = c.what_is_written_is_read_as_the_same_message.ensures;
  written = c.a_plain_message_may_be_written.ensures;
  within = c.a_plain_message_has_a_small_value.ensures.within;
}) c.each_delivery_changes_owed_so.ensures.window c.each_paint_changes_owed_so.ensures.put
