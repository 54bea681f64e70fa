use Rattle.window_model.proofs.Desktops.{opened_finds_lem}
use Rattle.window_model.proofs.laws.opened_finds.Goals as goal

pub returns : goal.returns
returns c = opened_finds_lem
