use Rattle.std.proofs.Common.{◌≡◌, ◌∷◌, map, take}
use Rattle.client_connection.specs.Clients.{fresh_source, structure_packet}
use Rattle.client_connection.specs.Wire.{server_hello, geometry_of, new_window}
use Rattle.client_connection.proofs.hearing.announce_desk.Given as goal

abbrev pub invariant-loop-window : goal.invariant-loop-window
invariant-loop-window l = record {
  sources : l.sources.items ≡ map (λ w. fresh_source (geometry_of w)) (take l.window-index l.desk);
  packets : l.packets.items ≡ structure_packet server_hello ∷ map (λ w. structure_packet (new_window (geometry_of w))) (take l.window-index l.desk);
}
