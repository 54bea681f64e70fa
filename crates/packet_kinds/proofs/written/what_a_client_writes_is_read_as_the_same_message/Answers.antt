use Rattle.packet_kinds.proofs.FromWritten.{client_read_back}
use Rattle.packet_kinds.proofs.written.what_a_client_writes_is_read_as_the_same_message.Goals as goal

pub returns : goal.returns
returns c = client_read_back
