use Rattle.std.proofs.Common.{◌≡◌, ◌≤◌, length}
use Rattle.link_bay.specs.Connections.{AllStay}
use Rattle.session_steps.specs.Slots.{taken_over, change_first}
use Rattle.session_state.specs.Views.{slots_in}
use Rattle.session_state.proofs.take_over.take_over.Given as goal

abbrev pub invariant-loop-number : goal.invariant-loop-number
invariant-loop-number g l =
    (slots_in l.table.slots ≡ change_first (taken_over l.c l.uuid) l.number (slots_in l.fn.table.slots)) × (length l.table.slots ≡ length l.fn.table.slots) × (l.number ≤ l.number-end)
    × AllStay (g.B.Bay.connection l.fn.bay) (g.B.Bay.connection l.bay) × (g.B.Bay.provider l.bay ≡ g.B.Bay.provider l.fn.bay)
