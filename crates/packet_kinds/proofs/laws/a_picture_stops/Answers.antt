use Rattle.packet_kinds.proofs.Stopping.{picture_stops}
use Rattle.packet_kinds.proofs.laws.a_picture_stops.Goals as goal

pub returns : goal.returns
returns c = picture_stops
