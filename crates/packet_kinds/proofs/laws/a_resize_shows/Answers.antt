use Rattle.packet_kinds.proofs.Points.{resize_shows}
use Rattle.packet_kinds.proofs.laws.a_resize_shows.Goals as goal

pub returns : goal.returns
returns c = resize_shows
