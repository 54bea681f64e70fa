use Rattle.std.proofs.Common.{List, [], refl, ap}
use Rattle.xp_base.specs.Points.{Rectangle}
use Rattle.client_outbox.specs.Outgoing.{other_packet}
use Rattle.attached_client.proofs.packets.bare_packet.Goals as goal

pub returns : goal.returns
returns c =
    let empty = c.equal_by_points.ensures c.new-relief.result [] c.pieces-pieces.ensures.kept (record { sized = tt; ordered = tt; joined = tt; points = λ x y. refl }) c.new-relief.ensures in
    ap (λ (l : List Rectangle). other_packet c.args.bytes.items l) empty
