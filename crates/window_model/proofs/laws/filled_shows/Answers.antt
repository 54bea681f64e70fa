use Rattle.window_model.proofs.Points.{filled_shows_lem}
use Rattle.window_model.proofs.laws.filled_shows.Goals as goal

pub returns : goal.returns
returns c = filled_shows_lem
