use Rattle.window_model.proofs.Points.{cropped_shows_lem}
use Rattle.window_model.proofs.laws.cropped_shows.Goals as goal

pub returns : goal.returns
returns c = cropped_shows_lem
