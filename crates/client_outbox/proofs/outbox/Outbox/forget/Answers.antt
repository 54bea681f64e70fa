use Rattle.std.proofs.Common.{◌<◌, ◌≤◌, length, arith}
use Rattle.client_outbox.specs.Reliefs.{Emptied}
use Rattle.client_outbox.proofs.Changed.{part_step, change_step, change_end, outbox_kept}
use Rattle.client_outbox.proofs.outbox.Outbox.forget.Goals as goal

pub invariant_of-self : goal.invariant_of-self
invariant_of-self g c =
    let now = c.loop-i.invariant in
    let end : length c.self.inside.packets.items ≤ c.loop-i.i = omega (arith, c.len-i-end.ensures, c.self.inside.packets.ok.0, c.loop-i-test.false) in
    let change = change_end (Emptied g.R.Points.has) c.args.wid _ _ _ end now.part now.changed in
    rw (now.taken, now.weight) (outbox_kept (Emptied g.R.Points.has) c.args.wid _ _ _ _ change c.self.invariant)

pub loop-i-preserved : goal.loop-i-preserved
loop-i-preserved g c =
    let now = c.loop-i.invariant in
    let within : c.loop-i.i < length c.self.inside.packets.items = omega (arith, c.len-i-end.ensures, c.self.inside.packets.ok.0, c.loop-i-test.true) in
    record {
      part = part_step _ _ _ _ _ within now.part c.index_mut.ensures.value;
      changed = change_step (Emptied g.R.Points.has) c.args.wid _ _ _ _ _ within now.part c.index_mut.ensures.value now.changed c.forget.ensures;
      taken = now.taken;
      weight = now.weight;
      room = now.room;
    }
