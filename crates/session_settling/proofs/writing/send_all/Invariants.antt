use Rattle.std.proofs.Common.{◌+◌, ◌-◌, ◌*◌}
use Rattle.session_state.specs.Views.{known}
use Rattle.session_settling.specs.Through.{GoesThrough, IsOn}
use Rattle.session_settling.specs.Writing.{client_at}
use Rattle.session_settling.proofs.Written.{waits_left}
use Rattle.session_settling.proofs.Writings.{HasWritten}
use Rattle.session_settling.proofs.writing.send_all.Given as goal

abbrev pub invariant-writes : goal.invariant-writes
invariant-writes g l = record {
  through : GoesThrough (known g.B.Bay.tells g.B.Bay.provider g.B.Bay.connection) (IsOn l.c.0) l.fn.state l.state;
  written : HasWritten (known g.B.Bay.tells g.B.Bay.provider g.B.Bay.connection) l.c.0 l.dry l.waited l.fn.state l.state;
}

abbrev pub decreases-writes : goal.decreases-writes
decreases-writes g l = 1000 * waits_left (client_at l.c.0 l.state) + (1000 - l.dry)
