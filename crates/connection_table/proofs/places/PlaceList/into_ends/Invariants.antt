use Rattle.std.proofs.Common.{◌≡◌, ◌+◌, ◌≤◌, ◌++◌, length, vec_len, vec_capacity}
use Rattle.std.specs.Vec.Iter.{into_iter_items, into_iter_len}
use Rattle.connection_table.specs.Places.{ends_in}
use Rattle.connection_table.proofs.places.PlaceList.into_ends.Given as goal

-- the ends so far and those to come are all of them, and there is room for as many as places are left
abbrev pub invariant-loop-place : goal.invariant-loop-place
invariant-loop-place g l = (l.ends.items ++ ends_in (into_iter_items l.place-iterator) ≡ ends_in (into_iter_items l.initial.place-iterator))
    × (into_iter_len l.place-iterator ≡ length (into_iter_items l.place-iterator))
    × (vec_len l.ends + into_iter_len l.place-iterator ≤ vec_capacity l.ends)
