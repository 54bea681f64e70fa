use Rattle.std.proofs.Common.{◌≡◌, ◌+◌, ◌≤◌, length}
use Rattle.session_state.proofs.Carrying.{Carried}
use Rattle.session_state.proofs.prepare.carry_out_all.Given as goal

abbrev pub invariant-loop : goal.invariant-loop
invariant-loop l = Carried l.change l.now l.fn.table.slots l.table.slots l.made.items × (l.counter + length l.made.items ≡ length l.fn.made.items) × (l.counter ≤ l.end) × (l.end ≤ length l.fn.made.items)
