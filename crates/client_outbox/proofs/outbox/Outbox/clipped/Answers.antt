use Rattle.std.proofs.Common.{◌<◌, length, sym, ◌∙◌, ap, arith}
use Rattle.client_outbox.specs.Outgoing.{WaitingPacket}
use Rattle.client_outbox.specs.Reliefs.{ClippedTo}
use Rattle.client_outbox.proofs.Changed.{clip_step, skip_step, clipped_to}
use Rattle.client_outbox.proofs.outbox.Outbox.clipped.Goals as goal
use Rattle.client_outbox.proofs.outbox.Outbox.clipped.Goals.{then-draws_in+in_ok-part+in_ok-push, else-draws_in}

pub loop-i-preserved : goal.loop-i-preserved
loop-i-preserved g c =
    let within : c.loop-i.i < length c.self.inside.packets.items = omega (arith, c.len-i-end.ensures, c.self.inside.packets.ok.0, c.loop-i-test.true) in
    let relief = ap (λ (p : WaitingPacket g.row.R.Denot). p.relief) c.packet.view_is in
    elim c.if-draws_in.branch [
      | then-draws_in+in_ok-part+in_ok-push w ↦
          let clip = clipped_to g.R.Points.has c.args.w c.args.h _ _ w.in_ok-part.field-0 relief w.in_ok-part.ensures in
          rw (w.reliefs-is, w.in_ok-push.ensures.items) (clip_step (ClippedTo g.R.Points.has c.args.w c.args.h) c.args.wid _ _ _ _ _ within c.index-packet.ensures (sym c.draws_in.ensures ∙ w.if-draws_in.true) clip c.loop-i.invariant)
      | else-draws_in w ↦
          rw w.reliefs-is (skip_step (ClippedTo g.R.Points.has c.args.w c.args.h) c.args.wid _ _ _ _ within c.index-packet.ensures (sym c.draws_in.ensures ∙ w.if-draws_in.false) c.loop-i.invariant)
    ]
