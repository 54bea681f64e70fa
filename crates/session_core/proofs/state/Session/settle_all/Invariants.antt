use Rattle.std.proofs.Common.{◌≡◌, ◌≤◌}
use Rattle.session_core.specs.State.{KeepsWindows}
use Rattle.session_core.specs.Settling.{SettlesOn}
use Rattle.session_core.specs.Ends.{KeepsEnds, NoMoreShort, work}
use Rattle.session_core.proofs.state.Session.settle_all.Given as goal

abbrev pub invariant-turns : goal.invariant-turns
invariant-turns g l = record {
  windows : KeepsWindows l.initial.self l.self;
  ends : KeepsEnds l.initial.self.ends l.self.ends;
  turn : SettlesOn g.B.Bay.provider g.B.Bay.connection g.B.Bay.tells l.initial.self l.self;
  short : NoMoreShort l.initial.self.ends l.self.ends;
  asked : (g.B.Bay.provider l.self.bay).asked ≡ (g.B.Bay.provider l.initial.self.bay).asked;
  faults : (g.B.Bay.provider l.self.bay).faults ≡ (g.B.Bay.provider l.initial.self.bay).faults;
  lulls : (g.B.Bay.provider l.initial.self.bay).lulls ≤ (g.B.Bay.provider l.self.bay).lulls;
}

abbrev pub decreases-turns : goal.decreases-turns
decreases-turns g l = work (g.B.Bay.provider l.self.bay).room l.self.ends
