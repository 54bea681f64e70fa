use Rattle.std.proofs.Common.{◌-◌, ℕ, length}
use Rattle.session_state.specs.Views.{known}
use Rattle.session_settling.specs.Through.{GoesThrough, IsOn}
use Rattle.session_settling.specs.Writing.{client_at, NothingWaits, OnlyWrites}
use Rattle.session_settling.specs.Reading.{StaysOpen}
use Rattle.session_settling.specs.Drawing.{AreLeft}
use Rattle.session_settling.proofs.Nearing.{LeftUpTo}
use Rattle.session_settling.proofs.drawing.draw_all.Given as goal

abbrev pub invariant-windows : goal.invariant-windows
invariant-windows g l = record {
  through : GoesThrough (known g.B.Bay.tells g.B.Bay.provider g.B.Bay.connection) (IsOn l.c.0) l.fn.state l.state;
  opened : StaysOpen l.c.0 l.state;
  empty : NothingWaits (client_at l.c.0 l.state);
  left : (n : ℕ) → AreLeft n (client_at l.c.0 l.fn.state) → LeftUpTo n l.place l.fn.state.desk (client_at l.c.0 l.state);
  only : OnlyWrites (known g.B.Bay.tells g.B.Bay.provider g.B.Bay.connection) l.c.0 l.waited l.fn.state l.state;
}

abbrev pub decreases-windows : goal.decreases-windows
decreases-windows g l = length l.fn.state.desk - l.place
