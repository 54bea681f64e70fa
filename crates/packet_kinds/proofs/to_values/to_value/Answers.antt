use Rattle.std.proofs.Common.{rules}
use Rattle.packet_kinds.specs.ToClients.{to_value}
use Rattle.packet_kinds.proofs.to_values.to_value.Goals as goal

pub returns : goal.returns
unfolding to_value
returns c = search rules
