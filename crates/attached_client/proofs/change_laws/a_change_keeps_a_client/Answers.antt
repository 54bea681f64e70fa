use Rattle.attached_client.proofs.Changing.{change_keeps, change_fits, change_stays}
use Rattle.attached_client.proofs.change_laws.a_change_keeps_a_client.Goals as goal

pub returns-clause-told : goal.returns-clause-told
returns-clause-told c =
    let keeps = c.each_paint_keeps_what_is_told.ensures in
    change_keeps (record {
      read = c.what_is_written_is_read_as_the_same_message.ensures;
      written = c.a_plain_message_may_be_written.ensures;
      within = c.a_plain_message_has_a_small_value.ensures.within;
    }) c.keyed_finds.ensures keeps.paint keeps.open keeps.close keeps.place keeps.top keeps.resize

pub returns-clause-fits : goal.returns-clause-fits
returns-clause-fits c = change_fits

pub returns-clause-stays : goal.returns-clause-stays
returns-clause-stays c = change_stays
