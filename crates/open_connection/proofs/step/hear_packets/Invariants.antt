use Rattle.std.proofs.Common.{length}
use Rattle.std.specs.Option.{option_map}
use Rattle.attached_client.specs.Client.{client_in}
use Rattle.attached_client.specs.Acting.{acts}
use Rattle.open_connection.proofs.Hearings.{SoFar}
use Rattle.open_connection.proofs.step.hear_packets.Given as goal

abbrev pub invariant-loop-place : goal.invariant-loop-place
invariant-loop-place l = SoFar (acts l.beside.desk.now l.beside.conn.0 l.beside.moment) l.initial.framer (option_map client_in l.initial.client) l.framer (option_map client_in l.client) l.ignored

abbrev pub decreases-loop-place : goal.decreases-loop-place
decreases-loop-place l = length l.framer.rest
