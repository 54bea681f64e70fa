use Rattle.std.proofs.Common.{◌≡◌, ◌++◌, drop}
use Rattle.plain_window.proofs.copies.copied_packets.Given as goal

abbrev pub invariant-loop-packet : goal.invariant-loop-packet
invariant-loop-packet l = l.copied.items ++ drop l.packet-index l.packets ≡ l.packets
