use Rattle.std.proofs.Common.{◌≡◌, ◌≤◌}
use Rattle.std.specs.Prelude.{IsSome}
use Rattle.xp_base.specs.Counts.{RoseBy}
use Rattle.link_bay.specs.Connections.{OthersStay}
use Rattle.session_core.specs.State.{KeepsWindows, open_client}
use Rattle.session_core.specs.Calm.{sources_in}
use Rattle.session_core.specs.Ends.{waiting_at}
use Rattle.session_core.specs.Causes.{ReadsStay}
use Rattle.session_core.specs.Settling.{Acts}
use Rattle.session_core.proofs.state.Session.send_some.Given as goal

abbrev pub invariant-loop-tried : goal.invariant-loop-tried
invariant-loop-tried g l = record {
  windows : KeepsWindows l.initial.self l.self;
  present : IsSome (open_client l.self.clients l.c.0);
  dry : RoseBy l.tried (g.B.Bay.connection l.initial.self.bay l.c.0).dry (g.B.Bay.connection l.self.bay l.c.0).dry;
  drought : l.tried ≤ (g.B.Bay.connection l.self.bay l.c.0).drought;
  reads : ReadsStay (g.B.Bay.connection l.initial.self.bay l.c.0) (g.B.Bay.connection l.self.bay l.c.0);
  acts : Acts g.B.Bay.provider g.B.Bay.connection l.c.0 l.initial.self l.self;
  ends : l.self.ends ≡ l.initial.self.ends;
  sources : sources_in (open_client l.self.clients l.c.0) ≡ sources_in (open_client l.initial.self.clients l.c.0);
  waiting : waiting_at l.self.clients l.c.0 ≤ waiting_at l.initial.self.clients l.c.0;
  others : OthersStay (g.B.Bay.connection l.initial.self.bay) (g.B.Bay.connection l.self.bay) l.c.0;
  provider : g.B.Bay.provider l.self.bay ≡ g.B.Bay.provider l.initial.self.bay;
}
