use Rattle.packet_kinds.proofs.Pictured.{picture_is_desktop}
use Rattle.packet_kinds.proofs.laws.a_picture_is_a_desktop.Goals as goal

pub returns : goal.returns
returns c = picture_is_desktop
