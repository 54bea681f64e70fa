use Rattle.attached_client.proofs.ChangeNumbering.{change_numbers}
use Rattle.attached_client.proofs.change_laws.a_change_keeps_the_numbering.Goals as goal

pub returns : goal.returns
returns c =
    let keeps = c.each_paint_keeps_the_numbering.ensures in
    change_numbers (record {
      read = c.what_is_written_is_read_as_the_same_message.ensures;
      written = c.a_plain_message_may_be_written.ensures;
      within = c.a_plain_message_has_a_small_value.ensures.within;
    }) c.keyed_finds.ensures keeps.paint c.a_window_begins_numbered.ensures.open keeps.close keeps.put keeps.resize
