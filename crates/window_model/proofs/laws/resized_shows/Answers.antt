use Rattle.window_model.proofs.Points.{resized_shows_lem}
use Rattle.window_model.proofs.laws.resized_shows.Goals as goal

pub returns : goal.returns
returns c = resized_shows_lem
