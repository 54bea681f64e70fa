use Rattle.packet_kinds.proofs.FromSizes.{said_may_be_written, said_is_within}
use Rattle.packet_kinds.proofs.written.a_small_packet_of_a_client_may_be_written.Goals as goal

pub returns-clause-written : goal.returns-clause-written
returns-clause-written c = said_may_be_written

pub returns-clause-within : goal.returns-clause-within
returns-clause-within c = said_is_within
