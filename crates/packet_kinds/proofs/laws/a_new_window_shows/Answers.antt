use Rattle.packet_kinds.proofs.Points.{new_window_shows}
use Rattle.packet_kinds.proofs.laws.a_new_window_shows.Goals as goal

pub returns : goal.returns
returns c = new_window_shows
