use Rattle.lossy_refresh.proofs.QueueLemmas.{last_decides, last_since}
use Rattle.lossy_refresh.proofs.laws.the_last_draw_decides.Goals as goal

pub returns : goal.returns
returns g c = record { points = last_decides g.R.Points.has; since = last_since g.R.Points.has }
