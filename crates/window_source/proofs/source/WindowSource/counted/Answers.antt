use Rattle.std.proofs.Common.{sym, subst}
use Rattle.rect_regions.specs.BitRows.{AllWithin}
use Rattle.damage_batch.specs.Pending.{BatchSeen}
use Rattle.window_source.proofs.KeptLemmas.{ack_before, ack_fewer, kept_sent}
use Rattle.window_source.proofs.source.WindowSource.counted.Goals as goal

pub invariant_of-self : goal.invariant_of-self
invariant_of-self g c =
    let has = g.R.Points.has in
    let was = c.self.inside.acks.draws in
    let left = c.ack-answer.new.self.draws in
    let gives = c.ack-answer.ensures.answer in
    kept_sent has c.self.inside.w c.self.inside.h c.self.inside.jobs.jobs c.self.inside.batch.pending c.self.inside.lossy.points was c.self.inside.next_sequence c.self.invariant
    left c.on_ack.new.self.pending (ack_before c.self.inside.next_sequence was left _ _ c.ack-answer.result gives c.self.invariant.before) (ack_fewer was left _ _ c.ack-answer.result gives)
    (subst (λ (b : BatchSeen g.row.R.Denot). AllWithin c.self.inside.w c.self.inside.h (has b.pending)) (sym c.on_ack.ensures) c.self.invariant.pending)
