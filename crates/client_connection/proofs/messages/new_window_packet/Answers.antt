use Rattle.std.proofs.Common.{arith, rules, w32}
use Rattle.std.proofs.lemmas.Int.{to_z-of_z}
use Rattle.client_connection.proofs.Carried.{announces_written}
use Rattle.client_connection.proofs.messages.new_window_packet.Goals as goal

pub to_bytes-requires-clause-sized : goal.to_bytes-requires-clause-sized
to_bytes-requires-clause-sized c = rw (to_z-of_z w32 c.args.geometry.now.x (search rules), to_z-of_z w32 c.args.geometry.now.y (search rules)) (announces_written c.args.geometry.now (record {
  number = record { first = omega (arith, c.get-number.ensures.value, c.get-number.ensures.some); last = omega (arith, c.get-number.ensures.value, c.get-number.type_inv) };
  across = c.requires.across;
  down = c.requires.down;
  wide = c.requires.wide;
  high = c.requires.high;
}))
