-- The connections of a session as its steps see them, without the room that each has.
use Rattle.std.specs.Prelude.{ℕ, Bool, false, Option, Some, None, List, map}
use Rattle.link_bay.specs.Connections.{ConnectionRecord}
use Rattle.link_bay.specs.Provider.{ProviderRecord}
use Rattle.connection_table.specs.Tables.{Slot, Open, Away, Ended}
use Rattle.connection_ends.specs.declared.end.End.{End}
use Rattle.open_connection.specs.Connection.{OpenSeen, ConnectionSeen, connection_in}
use Rattle.session_steps.specs.Seen.{Known}
use Rattle.session_steps.specs.Slots.{is_named}

-- what is known of a provider
abbrev pub known : {B : Type 0} → Bool → (B → ProviderRecord) → (B → ℕ → ConnectionRecord) → Known B
known tells provider connection = record { tells = tells; provider = provider; connection = connection }

abbrev pub slot_in : Slot OpenSeen End → Slot ConnectionSeen End
slot_in (Open o) = Open (connection_in o)
slot_in Away = Away
slot_in (Ended e) = Ended e

abbrev pub slots_in : List (Slot OpenSeen End) → List (Slot ConnectionSeen End)
slots_in slots = map slot_in slots

-- an open connection's client has this uuid, and it is not empty
abbrev pub is_named_in : List ℕ → Option OpenSeen → Bool
is_named_in uuid None = false
is_named_in uuid (Some o) = let c = connection_in o in is_named uuid c.client
