use Rattle.std.proofs.Common.{◌<◌, length, sym, ◌∙◌, arith}
use Rattle.draw_sequencer.proofs.Walks.{absent_step}
use Rattle.draw_sequencer.proofs.sequencer.Sequencer.place.Goals as goal

pub loop-i-preserved : goal.loop-i-preserved
loop-i-preserved g c =
    let within : c.loop-i.i < length c.self.inside.jobs.items = omega (arith, c.len-i-end.ensures, c.self.inside.jobs.ok.0, c.loop-i-test.true) in
    absent_step _ _ _ _ within c.index-job.ensures (sym c.has_number.ensures ∙ c.if-has_number.false) c.loop-i.invariant
