-- What is made for a paint line before anything changes: of each open connection what the change needs of it as it then stands.
use Rattle.std.specs.Prelude.{ℕ, ◌≡◌, ◌≢◌, Option, Some, None, List, [], ◌∷◌, ◌++◌, length, slice_get}
use Rattle.script_lines.specs.declared.paint.Paint.{Paint}
use Rattle.paint_script.specs.Painting.{painted}
use Rattle.line_changes.specs.Changes.{IsChangeOf}
use Rattle.attached_client.specs.declared.change.Change.{Change}
use Rattle.attached_client.specs.declared.change.Prepared.{Prepared}
use Rattle.connection_table.specs.Tables.{Slot, open_at}
use Rattle.connection_ends.specs.declared.end.End.{End}
use Rattle.open_connection.specs.Connection.{OpenSeen, ConnectionSeen}
use Rattle.open_connection.specs.Changing.{IsPreparedIn}
use Rattle.session_steps.specs.Seen.{Seen}
use Rattle.session_state.specs.Views.{slots_in}
use Rattle.session_steps.specs.Painting.{AllFit, ChangesSlot, Paints}

-- what was made of one slot; none where it is not open
abbrev pub IsMadeOf : Change → ℕ → Option OpenSeen → Option (Option Prepared) → Type 0
IsMadeOf change now None None = Unit {0}
IsMadeOf change now None (Some p) = ⊥
IsMadeOf change now (Some o) None = ⊥
IsMadeOf change now (Some o) (Some p) = IsPreparedIn change now o.client p

-- of all, by their numbers
abbrev pub AreMade : Change → ℕ → List (Slot OpenSeen End) → List (Option (Option Prepared)) → Type 0
AreMade change now slots made = (j : ℕ) (p : Option (Option Prepared)) → slice_get made j ≡ Some p → IsMadeOf change now (open_at slots j) p

-- what the line needs of each client is there, whatever change it is
abbrev pub LineFits : {B : Type 0} → Paint → Seen B → Type 0
LineFits line s = (change : Change) → IsChangeOf s.desk line change → AllFit change s.slots

-- the line was painted, as the change that it is
abbrev pub PaintsLine : {B : Type 0} → Paint → Seen B → Seen B → Type 0
PaintsLine line old new = (change : Change) × IsChangeOf old.desk line change × Paints change (painted old.desk line) old new

-- a slot before and after a change, by its number
abbrev pub ChangesAt : Change → ℕ → Option (Slot ConnectionSeen End) → Option (Slot ConnectionSeen End) → Type 0
ChangesAt change now None None = Unit {0}
ChangesAt change now None (Some slot') = ⊥
ChangesAt change now (Some slot) None = ⊥
ChangesAt change now (Some slot) (Some slot') = ChangesSlot change now slot slot'

-- the slot with this number changed so
abbrev pub ChangesPlace : Change → ℕ → ℕ → List (Slot OpenSeen End) → List (Slot OpenSeen End) → Type 0
ChangesPlace change now k slots slots' = ChangesAt change now (slice_get (slots_in slots) k) (slice_get (slots_in slots') k)

-- all other slots stay
abbrev pub OtherSlotsStay : ℕ → List (Slot OpenSeen End) → List (Slot OpenSeen End) → Type 0
OtherSlotsStay k slots slots' = (j : ℕ) → j ≢ k → slice_get slots' j ≡ slice_get slots j

-- the last of what was made was carried out: its slot changed so, and the others stay
pub record CarriesLast (change : Change) (now : ℕ) (slots : List (Slot OpenSeen End)) (made : List (Option (Option Prepared))) (slots' : List (Slot OpenSeen End)) (made' : List (Option (Option Prepared))) : Type 0 where
  pub last : Option (Option Prepared)
  pub was : made ≡ made' ++ last ∷ []
  pub changed : ChangesPlace change now (length made') slots slots'
  pub others : OtherSlotsStay (length made') slots slots'
