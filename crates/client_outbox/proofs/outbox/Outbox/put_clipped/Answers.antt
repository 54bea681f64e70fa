use Rattle.std.proofs.Common.{◌≤◌, length, arith}
use Rattle.client_outbox.proofs.Changed.{put_end, put_all_kept, outbox_kept}
use Rattle.client_outbox.proofs.outbox.Outbox.put_clipped.Goals as goal

pub invariant_of-self : goal.invariant_of-self
invariant_of-self g c =
    let now = c.loop-i.invariant in
    let end : length c.self.inside.packets.items ≤ c.loop-i.i = omega (arith, c.len-i-end.ensures, c.self.inside.packets.ok.0, c.loop-i-test.false) in
    rw (put_end c.args.wid _ _ _ _ _ end now.part now.together, now.taken, now.weight) (outbox_kept (λ old new. Unit {0}) c.args.wid _ _ _ _ (put_all_kept c.args.wid _ _) c.self.invariant)
