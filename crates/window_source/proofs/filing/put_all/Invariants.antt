use Rattle.std.proofs.Common.{◌≡◌, ◌≤◌, ◌++◌, length}
use Rattle.window_source.proofs.filing.put_all.Given as goal

abbrev pub invariant-loop-packet : goal.invariant-loop-packet
invariant-loop-packet g l = record {
  together : l.out.waiting.packets ++ l.packets.items ≡ l.initial.out.waiting.packets ++ l.fn.packets.items;
  taken : l.out.waiting.taken ≡ l.initial.out.waiting.taken;
  room : length l.packets.items ≤ l.out.room;
}

abbrev pub decreases-loop-packet : goal.decreases-loop-packet
decreases-loop-packet g l = length l.packets.items
