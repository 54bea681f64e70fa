use Rattle.std.proofs.Common.{◌≡◌, map, drop}
use Rattle.delivery_model.specs.Refusals.{is_busy}
use Rattle.plain_window.specs.Plain.{packet_seen}
use Rattle.plain_window.proofs.captures.is_busy.Given as goal

abbrev pub invariant-loop-packet : goal.invariant-loop-packet
invariant-loop-packet l = is_busy (map packet_seen (drop l.packet-index l.packets)) ≡ is_busy (map packet_seen l.packets)
