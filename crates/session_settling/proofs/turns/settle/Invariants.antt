use Rattle.std.proofs.Common.{◌+◌, ◌*◌}
use Rattle.connection_table.specs.Tables.{open_count}
use Rattle.session_state.specs.Views.{known}
use Rattle.session_settling.specs.Through.{GoesThrough, IsAny}
use Rattle.session_settling.proofs.Turning.{SoFar}
use Rattle.session_settling.proofs.turns.settle.Given as goal

abbrev pub invariant-turns : goal.invariant-turns
invariant-turns g l = record {
  through : GoesThrough (known g.B.Bay.tells g.B.Bay.provider g.B.Bay.connection) IsAny l.fn.state l.state;
  so_far : SoFar (known g.B.Bay.tells g.B.Bay.provider g.B.Bay.connection) l.fn.state l.state;
}

abbrev pub decreases-turns : goal.decreases-turns
decreases-turns g l = 2 * (g.B.Bay.provider l.state.bay).room + open_count l.state.slots
