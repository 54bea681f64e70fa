use Rattle.attached_client.proofs.Actings.{acting_keeps}
use Rattle.attached_client.proofs.laws.acting_keeps_what_is_told.Goals as goal

pub returns : goal.returns
returns c = acting_keeps (record {
  read = c.what_is_written_is_read_as_the_same_message.ensures;
  written = c.a_plain_message_may_be_written.ensures;
  within = c.a_plain_message_has_a_small_value.ensures.within;
}) c.what_a_client_says_keeps_what_is_told.ensures.window c.what_a_client_says_keeps_what_is_told.ensures.ping
