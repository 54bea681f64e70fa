use Rattle.std.proofs.Common.{◌<◌, ◌∙◌, ap, arith, length}
use Rattle.client_connection.specs.Clients.{ClientSeen}
use Rattle.client_connection.proofs.Sendings.{client_drawn, draw_some}
use Rattle.client_connection.proofs.client.Client.draw.Goals as goal

pub invariant_of-self-2 : goal.invariant_of-self-2
invariant_of-self-2 c =
    let size = ap length (c.new-2.ensures ∙ c.in_ok-bytes.ensures) in
    let some = draw_some c.args.window.now c.index.result.now.next_sequence in
    let within : c.args.place < length c.self.inside.sources.items = omega (arith, c.requires.place, ap (λ (s : ClientSeen). length s.sources) c.self.view_is) in
    client_drawn _ _ _ c.args.place _ c.self.invariant within c.in_ok-reserve.ensures.items c.push_reserved.ensures.items (omega (arith, size, some))
