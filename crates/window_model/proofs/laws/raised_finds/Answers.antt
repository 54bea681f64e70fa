use Rattle.window_model.proofs.Desktops.{raised_finds_lem}
use Rattle.window_model.proofs.laws.raised_finds.Goals as goal

pub returns : goal.returns
returns c = raised_finds_lem
