use Rattle.std.proofs.Common.{◌≡◌, ◌++◌, map, take, drop, length, ℕ, ◌≤◌, get_or}
use Rattle.std.specs.Prelude.{Option}
use Rattle.std.specs.Option.{option_map}
use Rattle.client_connection.specs.Clients.{ClientSeen, announced}
use Rattle.session_core.specs.Slots.{plain_clients}
use Rattle.session_core.proofs.opening.announce_all.Given as goal

abbrev pub invariant-loop-slot : goal.invariant-loop-slot
invariant-loop-slot l = record {
  rest : (k : ℕ) (d : Option ClientSeen) → l.slot-index ≤ k → get_or l.slot-items k d ≡ get_or l.initial.slot-items k d;
  sized : length l.slot-items ≡ length l.initial.slot-items;
  done : plain_clients l.slot-items ≡ map (option_map (announced l.geometry)) (take l.slot-index (plain_clients l.initial.slot-items)) ++ drop l.slot-index (plain_clients l.initial.slot-items);
}
