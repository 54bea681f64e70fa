use Rattle.window_model.proofs.Desktops.{numbers_kept_lem}
use Rattle.window_model.proofs.laws.numbers_kept.Goals as goal

pub returns : goal.returns
returns c = numbers_kept_lem
