use Rattle.window_model.proofs.Points.{copied_shows_lem}
use Rattle.window_model.proofs.laws.copied_shows.Goals as goal

pub returns : goal.returns
returns c = copied_shows_lem
