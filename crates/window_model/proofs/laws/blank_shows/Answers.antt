use Rattle.window_model.proofs.Points.{blank_shows_lem}
use Rattle.window_model.proofs.laws.blank_shows.Goals as goal

pub returns : goal.returns
returns c = blank_shows_lem
