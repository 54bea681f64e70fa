use Rattle.std.proofs.Common.{ap}
use Rattle.draw_sequencer.specs.InHand.{Jobs}
use Rattle.draw_sequencer.proofs.Walks.{job_at}
use Rattle.draw_sequencer.proofs.sequencer.Sequencer.find.Goals as goal

pub returns : goal.returns
returns g c =
    let same = ap (λ (s : Jobs g.row.R.Denot). s.jobs) c.self.view_is in
    job_at _ _ _ _ c.in_ok-place.ensures (rw same at c.index.ensures)
