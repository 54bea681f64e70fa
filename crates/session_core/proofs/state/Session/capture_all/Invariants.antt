use Rattle.std.proofs.Common.{◌≡◌, ℕ, ◌<◌, Some}
use Rattle.std.specs.Prelude.{IsSome, slice_get}
use Rattle.session_core.specs.Settling.{Acts}
use Rattle.window_model.specs.Desktop.{Window}
use Rattle.session_core.specs.State.{KeepsWindows, open_client}
use Rattle.session_core.specs.Calm.{IsCleanAt, sources_in}
use Rattle.session_core.proofs.state.Session.capture_all.Given as goal

abbrev pub invariant-loop-place : goal.invariant-loop-place
invariant-loop-place g l = record {
  windows : KeepsWindows l.initial.self l.self;
  clean : (i : ℕ) (w : Window) → i < l.place → slice_get l.self.desk i ≡ Some w → IsCleanAt (sources_in (open_client l.self.clients l.c.0)) w.wid;
  present : IsSome (open_client l.self.clients l.c.0);
  acts : Acts g.B.Bay.provider g.B.Bay.connection l.c.0 l.initial.self l.self;
  ends : l.self.ends ≡ l.initial.self.ends;
  bay : l.self.bay ≡ l.initial.self.bay;
}
