use Rattle.std.proofs.Common.{◌≡◌, ◌+◌, ◌<◌, ◌^◌, length, ap, subst, arith}
use Rattle.client_outbox.specs.Outgoing.{WaitingPacket, IsPacket}
use Rattle.client_outbox.proofs.Weights.{weight_fits, kept_with}
use Rattle.client_outbox.proofs.outbox.Outbox.put.Goals as goal

pub overflow_add-self : goal.overflow_add-self
overflow_add-self g c =
    let bound : c.self.inside.weight + c.len-size.result < 2 ^ 128 = weight_fits _ _ _ _ c.self.invariant (omega (arith, c.self.inside.packets.ok.0, c.self.inside.packets.small.0, c.self.inside.packets.small.1)) (omega (arith, c.len-size.ensures)) in
    omega arith

pub invariant_of-self : goal.invariant_of-self
invariant_of-self g c =
    let size : length c.args.p.bytes ≡ c.len-size.result = omega (arith, ap (λ (p : WaitingPacket g.row.R.Denot). length p.bytes) c.p.view_is, c.p.inside.bytes.ok.0, c.len-size.ensures) in
    let packet : IsPacket c.args.p = subst IsPacket c.p.view_is c.p.invariant in
    let kept = kept_with _ _ _ _ c.self.invariant packet (omega (arith, c.len-size.ensures)) in
    rw c.in-Ok.ensures.items (rw size at kept)
