use Rattle.std.proofs.Common.{◌-◌, ◌≤◌, length}
use Rattle.connection_table.specs.Tables.{NoOpenBetween}
use Rattle.connection_table.proofs.table.Table.next_open.Given as goal

abbrev pub invariant-loop-number : goal.invariant-loop-number
invariant-loop-number g l = (l.from ≤ l.number) × NoOpenBetween l.self.slots l.from l.number

abbrev pub decreases-loop-number : goal.decreases-loop-number
decreases-loop-number g l = length l.self-inside.places.places - l.number
