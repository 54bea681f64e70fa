use Rattle.std.proofs.Common.{◌≡◌}
use Rattle.std.specs.Prelude.{IsSome}
use Rattle.link_bay.specs.Connections.{OthersStay}
use Rattle.session_core.specs.Causes.{ReachesFlood}
use Rattle.session_core.specs.Settling.{Acts}
use Rattle.session_core.specs.State.{KeepsWindows, open_client}
use Rattle.session_core.proofs.state.Session.make_rounds.Given as goal

abbrev pub invariant-rounds : goal.invariant-rounds
invariant-rounds g l = record {
  windows : KeepsWindows l.initial.self l.self;
  present : IsSome (open_client l.self.clients l.c.0);
  near : ReachesFlood l.left (g.B.Bay.connection l.self.bay l.c.0).given;
  acts : Acts g.B.Bay.provider g.B.Bay.connection l.c.0 l.initial.self l.self;
  ends : l.self.ends ≡ l.initial.self.ends;
  others : OthersStay (g.B.Bay.connection l.initial.self.bay) (g.B.Bay.connection l.self.bay) l.c.0;
  provider : g.B.Bay.provider l.self.bay ≡ g.B.Bay.provider l.initial.self.bay;
}

abbrev pub decreases-rounds : goal.decreases-rounds
decreases-rounds g l = l.left
