use Rattle.std.proofs.Common.{◌≡◌, None, drop}
use Rattle.bencode_values.specs.Lookup.{last_value}
use Rattle.bencode_values.proofs.lookups.lookup.Given as goal

-- no pair from here on has the key
abbrev pub invariant-loop-at : goal.invariant-loop-at
invariant-loop-at l = last_value l.key (drop l.at l.list) ≡ None
