use Rattle.std.proofs.Common.{refl}
use Rattle.client_connection.proofs.Hearings.{packets_next, repeats_here, repeats_nowhere}
use Rattle.client_connection.proofs.hearing.count_packets.Goals as goal

pub packets-preserved : goal.packets-preserved
packets-preserved c = packets_next c.args.packet.now c.packets.count c.packets.rest.now c.args.bytes.now c.packets.invariant (c.in-Whole.ensures.whole refl)

pub returns-in-Part-clause-some : goal.returns-in-Part-clause-some
returns-in-Part-clause-some c = repeats_here c.args.packet.now c.packets.count c.packets.rest.now c.args.bytes.now c.packets.invariant (c.in-Part.ensures.part refl)

pub returns-in-Other-clause-none : goal.returns-in-Other-clause-none
returns-in-Other-clause-none c = λ none. repeats_nowhere c.args.packet.now c.packets.count c.packets.rest.now c.args.bytes.now c.requires c.packets.invariant (c.in-Other.ensures.other refl)
