use Rattle.std.proofs.Common.{◌≡◌, ◌≤◌}
use Rattle.session_state.specs.Views.{known}
use Rattle.session_settling.specs.Through.{GoesThrough, IsOn}
use Rattle.session_settling.specs.Reading.{UsesUp}
use Rattle.session_settling.proofs.reading.receive_all.Given as goal

abbrev pub invariant-reads : goal.invariant-reads
invariant-reads g l = record {
  through : GoesThrough (known g.B.Bay.tells g.B.Bay.provider g.B.Bay.connection) (IsOn l.c.0) l.fn.state l.state;
  some : 1 ≤ l.left;
  used : UsesUp (known g.B.Bay.tells g.B.Bay.provider g.B.Bay.connection) l.c.0 l.rest l.left l.fn.state l.state;
  waits : (g.B.Bay.connection l.fn.state.bay l.c.0).waits ≤ (g.B.Bay.connection l.state.bay l.c.0).waits;
  quiet : l.left ≡ l.rest → l.state ≡ l.fn.state;
}

abbrev pub decreases-reads : goal.decreases-reads
decreases-reads g l = l.left
