use Rattle.std.proofs.Common.{◌≡◌, ◌<◌, ℕ, length, get_or}
use Rattle.std.specs.Prelude.{Option, IfSome}
use Rattle.client_connection.specs.Clients.{ClientSeen, IsReady}
use Rattle.session_core.specs.Slots.{plain_clients}
use Rattle.session_core.proofs.opening.prepare_all.Given as goal

abbrev pub invariant-loop-i : goal.invariant-loop-i
invariant-loop-i l = record {
  sized : length l.clients.items ≡ length l.initial.clients.items;
  same : plain_clients l.clients.items ≡ plain_clients l.initial.clients.items;
  ready : (k : ℕ) (d : Option ClientSeen) → k < l.i → IfSome (get_or l.clients.items k d) (IsReady l.geometry);
}
