use Rattle.packet_kinds.proofs.Desktops.{effect_keeps_desktop}
use Rattle.packet_kinds.proofs.laws.an_effect_keeps_a_desktop.Goals as goal

pub returns : goal.returns
returns c = effect_keeps_desktop
