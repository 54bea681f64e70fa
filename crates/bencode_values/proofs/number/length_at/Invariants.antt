use Rattle.std.proofs.Common.{◌≡◌, ◌<◌, ◌≤◌, List, length, drop}
use Rattle.bencode_values.specs.Reading.{Open}
use Rattle.bencode_values.specs.Steps.{going, size, feed}
use Rattle.bencode_values.proofs.number.length_at.Given as goal

-- the digits so far are read, and their number is in the limit
abbrev pub invariant-loop-at : goal.invariant-loop-at
invariant-loop-at l = record {
  positive : 0 < l.size;
  in_limit : l.size ≤ 67108864;
  end : l.at-end ≡ length l.bytes;
  so_far : (opens : List Open) → feed (going l.fn.place opens (size l.fn.first)) (drop l.fn.place l.bytes) ≡ feed (going l.at opens (size l.size)) (drop l.at l.bytes);
}
