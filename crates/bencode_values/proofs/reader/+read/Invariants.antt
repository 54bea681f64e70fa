use Rattle.std.proofs.Common.{◌≡◌, ◌+◌, ◌-◌, ◌*◌, ◌≤◌, List, [], ◌∷◌, length, drop}
use Rattle.bencode_values.specs.Reading.{Open, in_list, in_dict}
use Rattle.bencode_values.specs.Steps.{going, start, feed}
use Rattle.bencode_values.proofs.reader.+read.Given as goal

-- fewer levels may open
abbrev pub decreases-items_at : goal.decreases-items_at
decreases-items_at l = 2 * (32 - l.depth) + 1

abbrev pub decreases-pairs_at : goal.decreases-pairs_at
decreases-pairs_at l = 2 * (32 - l.depth) + 1

abbrev pub decreases-value_at : goal.decreases-value_at
decreases-value_at l = 2 * (32 - l.depth)

-- the values so far are read
abbrev pub invariant-items_at-loop-mark : goal.invariant-items_at-loop-mark
invariant-items_at-loop-mark l = record {
  from : l.fn.place ≤ l.at;
  inside : l.at ≤ length l.bytes;
  so_far : (outer : List Open) → length outer + 1 ≡ l.depth → feed (going l.fn.place (in_list [] ∷ outer) start) (drop l.fn.place l.bytes) ≡ feed (going l.at (in_list l.items ∷ outer) start) (drop l.at l.bytes);
}

abbrev pub decreases-items_at-loop-mark : goal.decreases-items_at-loop-mark
decreases-items_at-loop-mark l = length l.bytes - l.at

-- the pairs so far are read
abbrev pub invariant-pairs_at-loop-mark : goal.invariant-pairs_at-loop-mark
invariant-pairs_at-loop-mark l = record {
  from : l.fn.place ≤ l.at;
  inside : l.at ≤ length l.bytes;
  so_far : (outer : List Open) → length outer + 1 ≡ l.depth → feed (going l.fn.place (in_dict [] ∷ outer) start) (drop l.fn.place l.bytes) ≡ feed (going l.at (in_dict l.pairs ∷ outer) start) (drop l.at l.bytes);
}

abbrev pub decreases-pairs_at-loop-mark : goal.decreases-pairs_at-loop-mark
decreases-pairs_at-loop-mark l = length l.bytes - l.at
