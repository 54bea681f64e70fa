use Rattle.client_outbox.specs.Reliefs.{ClippedTo}
use Rattle.client_outbox.proofs.Relieved.{clips_change, clipped_inside}
use Rattle.client_outbox.proofs.laws.clipped_reliefs_lie_inside.Goals as goal

pub returns : goal.returns
returns g c = record { change = λ has wid w h. clips_change (ClippedTo has w h) wid; points = clipped_inside g.R.Points.has }
