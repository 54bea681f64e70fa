use Rattle.draw_sequencer.proofs.Leaving.{order_stays, reliefs_stay}
use Rattle.draw_sequencer.proofs.laws.results_change_no_order.Goals as goal

pub returns : goal.returns
returns g c = record { order = order_stays; reliefs = reliefs_stay g.R.Points.has }
