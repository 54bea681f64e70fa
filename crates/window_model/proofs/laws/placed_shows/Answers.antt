use Rattle.window_model.proofs.Points.{placed_shows_lem}
use Rattle.window_model.proofs.laws.placed_shows.Goals as goal

pub returns : goal.returns
returns c = placed_shows_lem
