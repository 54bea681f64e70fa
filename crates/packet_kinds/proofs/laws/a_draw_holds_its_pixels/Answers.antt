use Rattle.packet_kinds.proofs.Points.{draw_holds_pixels}
use Rattle.packet_kinds.proofs.laws.a_draw_holds_its_pixels.Goals as goal

pub returns : goal.returns
returns c = draw_holds_pixels
