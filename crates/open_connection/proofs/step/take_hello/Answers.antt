use Rattle.std.proofs.Common.{Some, ap, sym, ◌∙◌}
use Rattle.client_talk.specs.Handling.{handled}
use Rattle.attached_client.specs.Client.{ClientSeen}
use Rattle.attached_client.specs.Acting.{acts}
use Rattle.open_connection.proofs.Packets.{greets, is_refused}
use Rattle.open_connection.proofs.step.take_hello.Goals as goal

pub returns-in-Ok : goal.returns-in-Ok
returns-in-Ok c = λ ignored packets fault.
    let a = acts c.args.beside.now.desk.now c.args.beside.now.conn.0 c.args.beside.now.moment in
    greets a c.args.place c.args.value.now ignored packets fault c.in-Accepted.caps c.in-Accepted.ensures ∙ ap (λ (k : ClientSeen). handled a (Some k) ignored packets fault) (sym c.in-Ok.ensures)

pub returns-in-Refused : goal.returns-in-Refused
returns-in-Refused c = λ ignored packets fault.
    let a = acts c.args.beside.now.desk.now c.args.beside.now.conn.0 c.args.beside.now.moment in
    rw c.requires.fresh (is_refused a c.args.place c.args.value.now ignored packets fault c.in-Refused.fault c.in-Refused.ensures)
