use Rattle.std.proofs.Common.{◌≡◌, ◌++◌, length, replicate}
use Rattle.std.specs.List.{concat}
use Rattle.client_connection.proofs.hearing.count_packets.Given as goal

abbrev pub invariant-packets : goal.invariant-packets
invariant-packets l = l.bytes ≡ concat (replicate l.count l.packet) ++ l.rest

abbrev pub decreases-packets : goal.decreases-packets
decreases-packets l = length l.rest
