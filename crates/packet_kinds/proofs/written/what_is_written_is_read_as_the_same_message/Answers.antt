use Rattle.packet_kinds.proofs.ToWritten.{read_back}
use Rattle.packet_kinds.proofs.written.what_is_written_is_read_as_the_same_message.Goals as goal

pub returns : goal.returns
returns c = read_back
