use Rattle.std.proofs.Common.{◌≡◌, ◌++◌, map, drop}
use Rattle.std.specs.List.{concat}
use Rattle.bencode_values.specs.Grammar.{spelled, spelled_pair}
use Rattle.bencode_values.proofs.writer.+write.Given as goal

-- what is written and the spellings of what is left are the spellings of all
abbrev pub invariant-write_pairs-loop-pair : goal.invariant-write_pairs-loop-pair
invariant-write_pairs-loop-pair l = l.out.items ++ concat (map spelled_pair (drop l.pair-index l.pairs)) ≡ l.initial.out.items ++ concat (map spelled_pair l.pairs)

abbrev pub invariant-write_values-loop-value : goal.invariant-write_values-loop-value
invariant-write_values-loop-value l = l.out.items ++ concat (map spelled (drop l.value-index l.values)) ≡ l.initial.out.items ++ concat (map spelled l.values)
