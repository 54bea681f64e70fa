use Rattle.std.proofs.Common.{Some, ◌+◌, cond, ap, sym, ◌∙◌}
use Rattle.client_talk.specs.Handling.{handled}
use Rattle.attached_client.specs.Client.{ClientSeen}
use Rattle.attached_client.specs.Acting.{acts, ignored as is_ignored}
use Rattle.open_connection.proofs.Packets.{leaves, says, has_no_shape}
use Rattle.open_connection.proofs.step.take_message.Goals as goal

pub returns-then-says_leaving : goal.returns-then-says_leaving
returns-then-says_leaving c = λ ignored packets fault.
    leaves (acts c.args.beside.now.desk.now c.args.beside.now.conn.0 c.args.beside.now.moment) c.args.place c.args.value.now ignored packets fault c.args.attached.now.client c.in-Ok.message c.in-Ok.ensures (sym c.says_leaving.ensures ∙ c.if-says_leaving.true)

pub returns-in-Ok-act : goal.returns-in-Ok-act
returns-in-Ok-act c = λ ignored packets fault.
    let a = acts c.args.beside.now.desk.now c.args.beside.now.conn.0 c.args.beside.now.moment in
    says a c.args.place c.args.value.now ignored packets fault c.args.attached.now.client c.in-Ok.message c.in-Ok.ensures (sym c.says_leaving.ensures ∙ c.if-says_leaving.false)
    ∙ ap (λ (k : ClientSeen). handled a (Some k) (cond (is_ignored c.in-Ok.message c.args.attached.now.client.seen) (ignored + 1) ignored) packets fault) (sym c.in-Ok-act.ensures.ok)
    ∙ ap (λ b. handled a (Some c.act.new.self.client) (cond b (ignored + 1) ignored) packets fault) (sym c.in-Ok-act.ensures.answer)

pub returns-in-Err-Shape : goal.returns-in-Err-Shape
returns-in-Err-Shape c = λ ignored packets fault.
    has_no_shape (acts c.args.beside.now.desk.now c.args.beside.now.conn.0 c.args.beside.now.moment) c.args.place c.args.value.now ignored packets fault c.args.attached.now.client c.in-Err-Shape.item (rw c.in-Err-Shape.field-0-is at c.in-Err-Shape.ensures)
