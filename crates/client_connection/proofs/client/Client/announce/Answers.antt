use Rattle.std.proofs.Common.{◌≡◌, ◌∙◌, sym, ap, length, arith}
use Rattle.std.proofs.lemmas.Option.{same_Some}
use Rattle.client_connection.specs.Clients.{announcement}
use Rattle.client_connection.specs.declared.packet.Announcement.{Announcement}
use Rattle.client_connection.proofs.Sendings.{client_push, new_window_some}
use Rattle.client_connection.proofs.client.Client.announce.Goals as goal

pub invariant_of-self : goal.invariant_of-self
invariant_of-self c =
    let ready = (rw (← c.self.view_is) at c.requires.next) c.if-self.true in
    let is : c.in-Some.field-0 ≡ announcement c.args.geometry.now = same_Some _ _ (sym c.in-Some.is ∙ c.take.ensures.value ∙ ready) in
    let sizes = ap (λ (a : Announcement). length a.packet.bytes) is in
    let some = new_window_some c.args.geometry.now in
    client_push _ _ c.in-Some.field-0.packet c.self.invariant c.if-self.true c.push_reserved-in-Some.ensures.items (omega (arith, sizes, some))
