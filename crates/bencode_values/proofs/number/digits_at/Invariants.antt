use Rattle.std.proofs.Common.{◌≡◌, ◌<◌, ◌≤◌, List, length, drop}
use Rattle.bencode_values.specs.Reading.{Open, range_of}
use Rattle.bencode_values.specs.Steps.{going, number, feed}
use Rattle.bencode_values.proofs.number.digits_at.Given as goal

-- the digits so far are read, and their number is in range
abbrev pub invariant-loop-at : goal.invariant-loop-at
invariant-loop-at l = record {
  limit : l.limit ≡ range_of l.negative;
  positive : 0 < l.number;
  in_range : l.number ≤ range_of l.negative;
  end : l.at-end ≡ length l.bytes;
  so_far : (opens : List Open) → feed (going l.fn.place opens (number l.negative l.fn.first)) (drop l.fn.place l.bytes) ≡ feed (going l.at opens (number l.negative l.number)) (drop l.at l.bytes);
}
