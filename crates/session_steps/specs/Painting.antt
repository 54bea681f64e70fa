-- A paint line: every open connection meets the change that it is, at the moment of the clock.
use Rattle.std.specs.Prelude.{ℕ, ◌≡◌, Option, Some, None, List, [], ◌∷◌}
use Rattle.window_model.specs.Desktop.{Window}
use Rattle.attached_client.specs.declared.change.Change.{Change}
use Rattle.attached_client.specs.Client.{ClientSeen}
use Rattle.attached_client.specs.Changes.{Fits}
use Rattle.connection_table.specs.Tables.{Slot, Open, Away, Ended, open_at}
use Rattle.connection_ends.specs.declared.end.End.{End}
use Rattle.open_connection.specs.Connection.{ConnectionSeen}
use Rattle.open_connection.specs.Changing.{ConnectionChanges}
use Rattle.session_steps.specs.Seen.{Seen}
use Rattle.session_steps.specs.Slots.{Slots}

-- an open connection meets it, and others stay
abbrev pub ChangesSlot : Change → ℕ → Slot ConnectionSeen End → Slot ConnectionSeen End → Type 0
ChangesSlot change now (Open c) slot' = (c' : ConnectionSeen) × (slot' ≡ Open c') × ConnectionChanges change now c c'
ChangesSlot change now Away slot' = slot' ≡ Away
ChangesSlot change now (Ended e) slot' = slot' ≡ Ended e

-- place by place
abbrev pub ChangesSlots : Change → ℕ → Slots → Slots → Type 0
ChangesSlots change now [] [] = Unit {0}
ChangesSlots change now [] (slot' ∷ slots') = ⊥
ChangesSlots change now (slot ∷ slots) [] = ⊥
ChangesSlots change now (slot ∷ slots) (slot' ∷ slots') = ChangesSlot change now slot slot' × ChangesSlots change now slots slots'

-- what the change needs of a client is there
abbrev pub FitsSeen : Change → Option ClientSeen → Type 0
FitsSeen change None = Unit {0}
FitsSeen change (Some client) = Fits change client.seen

-- of each that is open
abbrev pub AllFit : Change → Slots → Type 0
AllFit change slots = (j : ℕ) (c : ConnectionSeen) → open_at slots j ≡ Some c → FitsSeen change c.client

-- the desktop becomes this one
pub record Paints {B : Type 0} (change : Change) (desk' : List Window) (old new : Seen B) : Type 0 where
  pub slots : ChangesSlots change old.clock old.slots new.slots
  pub rest : new ≡ record old { desk = desk'; slots = new.slots }
