use Rattle.window_model.proofs.Desktops.{changed_finds_lem}
use Rattle.window_model.proofs.laws.changed_finds.Goals as goal

pub returns : goal.returns
returns c = changed_finds_lem
