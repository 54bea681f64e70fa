use Rattle.std.proofs.Common.{◌≡◌, rules, w32, to_z, of_z}
use Rattle.session_core.proofs.paint.apply.Goals as goal

pub returns-in-Open-clause-clients_ok : goal.returns-in-Open-clause-clients_ok
returns-in-Open-clause-clients_ok c =
    let x : to_z w32 (of_z w32 c.in-Open.x) ≡ c.in-Open.x = search rules in
    let y : to_z w32 (of_z w32 c.in-Open.y) ≡ c.in-Open.y = search rules in
    rw c.in-Open.is (rw (x, y) at (rw c.new-geometry.ensures at c.open_window.ensures.clients_ok))
