use Rattle.std.proofs.Common.{w64}
use Rattle.std.proofs.lemmas.Int.{to_z_pos}
use Rattle.window_model.specs.Desktop.{Window}
use Rattle.client_connection.proofs.Carried.{draws_written}
use Rattle.client_connection.proofs.messages.draw_packet.Goals as goal

pub to_bytes-requires-clause-sized : goal.to_bytes-requires-clause-sized
to_bytes-requires-clause-sized c =
    let window : Window = record { wid = c.window.inside.wid; x = c.window.inside.x; y = c.window.inside.y; w = c.window.inside.w; h = c.window.inside.h; pixels = c.window.inside.pixels } in
    let made = draws_written window c.args.sequence c.window.invariant c.requires in
    rw (to_z_pos w64 c.args.sequence c.requires, c.in_ok-whole_bytes.ensures, ← c.window.view_is) made
