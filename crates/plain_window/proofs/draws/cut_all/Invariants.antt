use Rattle.std.proofs.Common.{◌≡◌, ◌++◌, map, drop}
use Rattle.delivery_model.specs.Events.{with_relief}
use Rattle.xp_base.specs.Points.{survives}
use Rattle.plain_window.specs.Plain.{packet_seen}
use Rattle.plain_window.proofs.draws.cut_all.Given as goal

abbrev pub invariant-loop-packet : goal.invariant-loop-packet
invariant-loop-packet l =
    map packet_seen l.cut.items ++ map (with_relief l.sizes.wide l.sizes.high (survives l.sizes.wide_before l.sizes.high_before l.sizes.wide l.sizes.high)) (map packet_seen (drop l.packet-index l.packets))
    ≡ map (with_relief l.sizes.wide l.sizes.high (survives l.sizes.wide_before l.sizes.high_before l.sizes.wide l.sizes.high)) (map packet_seen l.packets)
