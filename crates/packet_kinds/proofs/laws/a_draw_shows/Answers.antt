use Rattle.packet_kinds.proofs.Points.{draw_shows}
use Rattle.packet_kinds.proofs.laws.a_draw_shows.Goals as goal

pub returns : goal.returns
returns c = draw_shows
