use Rattle.client_outbox.specs.Reliefs.{Emptied, ClippedTo}
use Rattle.client_outbox.proofs.Relieved.{only_reliefs}
use Rattle.client_outbox.proofs.laws.only_reliefs_change.Goals as goal

pub returns : goal.returns
returns g c = record {
  forgotten = only_reliefs g.R.Points.has (Emptied g.R.Points.has);
  clipped = λ wid w h. only_reliefs g.R.Points.has (ClippedTo g.R.Points.has w h) wid;
}
