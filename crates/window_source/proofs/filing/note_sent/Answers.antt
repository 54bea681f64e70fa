use Rattle.std.proofs.Common.{◌≡◌, ◌+◌, ◌∙◌, ap, arith}
use Rattle.xp_base.specs.Points.{Rectangle}
use Rattle.xp_base.specs.Captures.{Captured}
use Rattle.ack_tracker.specs.Unacknowledged.{sent_as, placed}
use Rattle.draw_sequencer.specs.InHand.{HeldJob}
use Rattle.window_source.proofs.FiledLemmas.{none_sent, note_step}
use Rattle.window_source.proofs.filing.note_sent.Goals as goal

pub queued-requires-clause-unused : goal.queued-requires-clause-unused
queued-requires-clause-unused g c = none_sent _ c.loop-k.acks.draws c.loop-k.invariant.before

pub loop-k-preserved : goal.loop-k-preserved
loop-k-preserved g c =
    let rect : c.behind-job.inside.rect ≡ c.in-Some.job.now.capture.rect =
    ap (λ (k : Captured). k.rect) (c.behind-job.view_is ∙ c.deref.ensures) ∙ ap (λ (j : HeldJob g.row.R.Denot). j.capture.rect) c.job.view_is in
    let notes = note_step c.args.next c.loop-k.k c.args.acks.now.draws c.loop-k.acks.draws c.queued.new.self.draws c.args.jobs.now.jobs c.in-Some.job.now c.in-Some.ensures
    c.loop-k.invariant.sent c.loop-k.invariant.before c.loop-k.invariant.longer
    (c.in-Ok.ensures.ok ∙ ap (λ (r : Rectangle). placed c.loop-k.acks.draws (sent_as (c.args.next + c.loop-k.k) r)) rect) in
    record { sent = notes.sent; before = notes.before; longer = notes.longer; room = omega (arith, c.loop-k.invariant.room, c.queued.ensures.room) }
