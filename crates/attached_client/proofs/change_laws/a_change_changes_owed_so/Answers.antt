use Rattle.attached_client.proofs.ChangeOwing.{change_owes}
use Rattle.attached_client.proofs.change_laws.a_change_changes_owed_so.Goals as goal

pub returns : goal.returns
returns c =
    let owes = c.each_paint_changes_owed_so.ensures in
    change_owes (record {
      read = c.what_is_written_is_read_as_the_same_message.ensures;
      written = c.a_plain_message_may_be_written.ensures;
      within = c.a_plain_message_has_a_small_value.ensures.within;
    }) c.keyed_finds.ensures owes.paint owes.open owes.close owes.put owes.resize
