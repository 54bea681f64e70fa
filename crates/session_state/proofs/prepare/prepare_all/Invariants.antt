use Rattle.std.proofs.Common.{◌≡◌, ◌≤◌, length}
use Rattle.session_state.specs.Views.{slots_in}
use Rattle.session_state.specs.Painting.{AreMade}
use Rattle.session_state.proofs.prepare.prepare_all.Given as goal

abbrev pub invariant-loop-number : goal.invariant-loop-number
invariant-loop-number l = (slots_in l.table.slots ≡ slots_in l.fn.table.slots) × (length l.made.items ≡ l.number) × AreMade l.change l.now l.table.slots l.made.items × (l.number ≤ l.number-end) × (l.number-end ≡ length l.fn.table.slots)
