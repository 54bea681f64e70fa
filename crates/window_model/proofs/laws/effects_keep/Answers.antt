use Rattle.window_model.proofs.Desktops.{effects_keep_lem}
use Rattle.window_model.proofs.laws.effects_keep.Goals as goal

pub returns : goal.returns
returns c = effects_keep_lem
