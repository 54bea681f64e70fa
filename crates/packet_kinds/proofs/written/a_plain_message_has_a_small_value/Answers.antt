use Rattle.packet_kinds.proofs.Sizes.{small_value, is_within}
use Rattle.packet_kinds.proofs.written.a_plain_message_has_a_small_value.Goals as goal

pub returns-clause-small : goal.returns-clause-small
returns-clause-small c = small_value

pub returns-clause-within : goal.returns-clause-within
returns-clause-within c = is_within
