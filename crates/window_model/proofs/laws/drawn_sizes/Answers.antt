use Rattle.window_model.proofs.Points.{drawn_sizes_lem}
use Rattle.window_model.proofs.laws.drawn_sizes.Goals as goal

pub returns : goal.returns
returns c = drawn_sizes_lem
