use Rattle.std.proofs.Common.{◌≡◌, take}
use Rattle.packet_kinds.proofs.copies.+copies.Given as goal

abbrev pub invariant-copy_items-loop-value : goal.invariant-copy_items-loop-value
invariant-copy_items-loop-value l = l.copy ≡ take l.value-index l.values

abbrev pub invariant-copy_pairs-loop-pair : goal.invariant-copy_pairs-loop-pair
invariant-copy_pairs-loop-pair l = l.copy ≡ take l.pair-index l.pairs
