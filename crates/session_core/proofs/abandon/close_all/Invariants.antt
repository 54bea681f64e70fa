use Rattle.std.proofs.Common.{◌≡◌}
use Rattle.link_bay.specs.Connections.{AllStay}
use Rattle.session_core.proofs.abandon.close_all.Given as goal

abbrev pub invariant-loop-k : goal.invariant-loop-k
invariant-loop-k g l = record {
  provider : g.B.Bay.provider l.bay ≡ g.B.Bay.provider l.initial.bay;
  connections : AllStay (g.B.Bay.connection l.initial.bay) (g.B.Bay.connection l.bay);
}
