use Rattle.std.proofs.Common.{◌≡◌, ◌++◌, map, take, drop, length}
use Rattle.std.specs.Option.{option_map}
use Rattle.client_connection.specs.Clients.{damaged}
use Rattle.session_core.specs.Slots.{plain_clients}
use Rattle.session_core.proofs.paint.damage_all.Given as goal

abbrev pub invariant-loop-slot : goal.invariant-loop-slot
invariant-loop-slot l = record {
  sized : length l.slot-items ≡ length l.initial.slot-items;
  done : plain_clients l.slot-items ≡ map (option_map (damaged l.wid l.r)) (take l.slot-index (plain_clients l.initial.slot-items)) ++ drop l.slot-index (plain_clients l.initial.slot-items);
}
