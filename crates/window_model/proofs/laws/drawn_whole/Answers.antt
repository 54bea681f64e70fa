use Rattle.window_model.proofs.Points.{drawn_whole_lem}
use Rattle.window_model.proofs.laws.drawn_whole.Goals as goal

pub returns : goal.returns
returns c = drawn_whole_lem
