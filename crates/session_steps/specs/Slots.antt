-- Connections by their numbers, and how a later one takes earlier ones over. The rule is this project's own.
use Rattle.std.specs.Prelude.{ℕ, zero, suc, ◌&&◌, Bool, true, false, not, Option, Some, None, List, [], ◌∷◌, slice_set, if◌then◌else◌}
use Rattle.std.specs.Str.{bytes_eq}
use Rattle.xp_base.specs.declared.numbers.Conn.{Conn}
use Rattle.connection_table.specs.Tables.{Slot, Open, Away, Ended}
use Rattle.connection_ends.specs.declared.end.End.{End}
use Rattle.connection_ends.specs.declared.end.End.TheVariants as E
use Rattle.attached_client.specs.Client.{ClientSeen}
use Rattle.open_connection.specs.Connection.{ConnectionSeen}

abbrev pub Slots : Type 0
Slots = List (Slot ConnectionSeen End)

-- the first so many items are changed
abbrev pub change_first : {A : Type 0} → (A → A) → ℕ → List A → List A
change_first change zero items = items
change_first change (suc n) [] = []
change_first change (suc n) (item ∷ items) = change item ∷ change_first change n items

abbrev pub is_some_uuid : List ℕ → Bool
is_some_uuid [] = false
is_some_uuid (byte ∷ bytes) = true

-- the client's hello has this uuid, and it is not empty
abbrev pub is_named : List ℕ → Option ClientSeen → Bool
is_named uuid None = false
is_named uuid (Some client) = is_some_uuid uuid && bytes_eq client.caps.uuid uuid

-- a connection whose client has the uuid ends, taken over by the later connection
abbrev pub taken_over : Conn → List ℕ → Slot ConnectionSeen End → Slot ConnectionSeen End
taken_over c uuid (Open connection) = if is_named uuid connection.client then Ended (E.TakenOver c) else Open connection
taken_over c uuid Away = Away
taken_over c uuid (Ended e) = Ended e

-- What a read on connection c does to earlier ones: where its client was not attached before, and is now, those with its uuid end.
abbrev pub overtaken : Conn → Bool → Option ClientSeen → Slots → Slots
overtaken c was_attached None slots = slots
overtaken c true (Some client) slots = slots
overtaken c false (Some client) slots = change_first (taken_over c client.caps.uuid) c.0 slots
