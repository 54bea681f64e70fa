use Rattle.connection_table.specs.Tables.{open_count}
use Rattle.session_state.specs.Views.{known}
use Rattle.session_settling.specs.Through.{GoesThrough, IsAny}
use Rattle.session_settling.proofs.Closed.{ClosesSome}
use Rattle.session_settling.proofs.turns.close_all.Given as goal

abbrev pub invariant-open : goal.invariant-open
invariant-open g l = record {
  through : GoesThrough (known g.B.Bay.tells g.B.Bay.provider g.B.Bay.connection) IsAny l.fn.state l.state;
  closed : ClosesSome (known g.B.Bay.tells g.B.Bay.provider g.B.Bay.connection) l.fn.state l.state;
}

abbrev pub decreases-open : goal.decreases-open
decreases-open g l = open_count l.state.slots
