use Rattle.attached_client.proofs.Attachings.{attaches_so}
use Rattle.attached_client.proofs.laws.a_new_client_attaches.Goals as goal

pub returns : goal.returns
returns c = attaches_so (record {
  read = c.what_is_written_is_read_as_the_same_message.ensures;
  written = c.a_plain_message_may_be_written.ensures;
  within = c.a_plain_message_has_a_small_value.ensures.within;
}) (record {
  written = c.the_server_spells.ensures.hello;
  exact = c.the_server_spells.ensures.exact;
  lossy = c.the_server_spells.ensures.lossy;
})
