use Rattle.std.proofs.Common.{◌≤◌, ◌+◌, ◌*◌}
use Rattle.session_state.specs.Views.{known}
use Rattle.session_settling.specs.Through.{GoesThrough, IsOn}
use Rattle.session_settling.specs.Reading.{UsesUp}
use Rattle.session_settling.proofs.Rested.{Nears}
use Rattle.session_settling.proofs.rounds.settle_connection.Given as goal

abbrev pub invariant-rounds : goal.invariant-rounds
invariant-rounds g l = record {
  through : GoesThrough (known g.B.Bay.tells g.B.Bay.provider g.B.Bay.connection) (IsOn l.c.0) l.fn.state l.state;
  some : 1 ≤ l.left;
  used : UsesUp (known g.B.Bay.tells g.B.Bay.provider g.B.Bay.connection) l.c.0 4194304 l.left l.fn.state l.state;
  few : l.captures ≤ 3;
  near : Nears (known g.B.Bay.tells g.B.Bay.provider g.B.Bay.connection) l.c.0 l.captures l.state;
}

abbrev pub decreases-rounds : goal.decreases-rounds
decreases-rounds g l = 3 * l.left + l.captures
