use Rattle.window_model.proofs.Desktops.{removed_finds_lem}
use Rattle.window_model.proofs.laws.removed_finds.Goals as goal

pub returns : goal.returns
returns c = removed_finds_lem
