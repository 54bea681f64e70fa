use Rattle.std.proofs.Common.{◌≡◌}
use Rattle.std.specs.Prelude.{IsSome}
use Rattle.session_core.specs.Causes.{ReadsStay}
use Rattle.session_core.specs.Settling.{Acts}
use Rattle.link_bay.specs.Connections.{OthersStay}
use Rattle.session_core.specs.State.{KeepsWindows, open_client}
use Rattle.session_core.specs.Ends.{waiting_at}
use Rattle.session_core.specs.Calm.{sources_in}
use Rattle.session_core.proofs.state.Session.send_all.Given as goal

abbrev pub invariant-writes : goal.invariant-writes
invariant-writes g l = record {
  windows : KeepsWindows l.initial.self l.self;
  present : IsSome (open_client l.self.clients l.c.0);
  reads : ReadsStay (g.B.Bay.connection l.initial.self.bay l.c.0) (g.B.Bay.connection l.self.bay l.c.0);
  acts : Acts g.B.Bay.provider g.B.Bay.connection l.c.0 l.initial.self l.self;
  ends : l.self.ends ≡ l.initial.self.ends;
  sources : sources_in (open_client l.self.clients l.c.0) ≡ sources_in (open_client l.initial.self.clients l.c.0);
  others : OthersStay (g.B.Bay.connection l.initial.self.bay) (g.B.Bay.connection l.self.bay) l.c.0;
  provider : g.B.Bay.provider l.self.bay ≡ g.B.Bay.provider l.initial.self.bay;
}

abbrev pub decreases-writes : goal.decreases-writes
decreases-writes g l = waiting_at l.self.clients l.c.0
