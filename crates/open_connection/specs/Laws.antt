-- What is kept of a connection while its bytes are read.
use Rattle.std.specs.Prelude.{ℕ, ◌≡◌, Bool, Option, Some, None, List, [], ◌++◌}
use Rattle.packet_frames.specs.Stream.{Packet, Fault}
use Rattle.window_model.specs.Desktop.{Window, IsDesktop}
use Rattle.packet_kinds.specs.Talk.{talk}
use Rattle.client_talk.specs.declared.ending.Ending.{Ending}
use Rattle.client_talk.specs.Talked.{server_limit, HasEnding}
use Rattle.client_talk.specs.Handling.{handled}
use Rattle.client_talk.specs.Kept.{Hears, EndsHearing}
use Rattle.client_delivery.specs.Delivered.{IsTold}
use Rattle.client_delivery.specs.Keeping.{HoldsDesk}
use Rattle.attached_client.specs.Client.{ClientSeen}
use Rattle.attached_client.specs.Acting.{acts}
use Rattle.attached_client.specs.declared.change.Change.{Change}
use Rattle.attached_client.specs.Desktops.{DeskChanges, NumbersChange}
use Rattle.open_connection.specs.Connection.{OpenSeen, ConnectionSeen, connection_in, IsListeningTo}
use Rattle.open_connection.specs.Changing.{FitsIn, ChangesIn, ConnectionChanges}

-- the bytes given so far, and what is kept of what they said
abbrev pub HearingListens : Type 0
HearingListens = (desk : List Window) (conn now : ℕ) (given piece : List ℕ) (old new : ConnectionSeen) (ignored : ℕ) → IsListeningTo given old
    → Hears (acts desk conn now) old.framing old.client piece new.framing new.client ignored → IsListeningTo (given ++ piece) new

-- what ends a connection is said by the bytes given so far
abbrev pub HearingEnds : Type 0
HearingEnds = (desk : List Window) (conn now : ℕ) (given piece : List ℕ) (old : ConnectionSeen) (client : Option ClientSeen) (ending : Ending) (ignored : ℕ) → IsListeningTo given old
    → EndsHearing (acts desk conn now) old.framing old.client piece ending client ignored → HasEnding ending (talk server_limit (given ++ piece))

-- What is kept of a connection's client and the bytes sent: nothing is sent before its hello was accepted; then each of its windows
-- is the model's.
abbrev pub IsToldTo : List Window → (ℕ → Bool) → ℕ → Option ClientSeen → List ℕ → Type 0
IsToldTo desk were_opened conn None sent = sent ≡ []
IsToldTo desk were_opened conn (Some c) sent = (c.conn ≡ conn) × IsTold desk were_opened c.seen sent

-- whatever packets come, and whether or not they end the talk
abbrev pub HearingTells : Type 0
HearingTells = (desk : List Window) (were_opened : ℕ → Bool) (conn now : ℕ) (sent : List ℕ) (client : Option ClientSeen) (packets : List Packet) (fault : Option Fault) → IsDesktop desk → HoldsDesk desk were_opened
    → IsToldTo desk were_opened conn client sent → let outcome = handled (acts desk conn now) client 0 packets fault in IsToldTo desk were_opened conn outcome.attached sent

-- beside the desktop after a paint line it is so as it was beside that before
abbrev pub ChangingTells : Type 0
ChangingTells = (desk desk' : List Window) (old new : ℕ → Bool) (conn now : ℕ) (change : Change) (client client' : Option ClientSeen) (sent : List ℕ) → IsDesktop desk
    → DeskChanges change desk desk' → NumbersChange change old new → ChangesIn change now client client'
    → IsToldTo desk old conn client sent → IsToldTo desk' new conn client' sent

-- the packets handled stay those of the bytes given
abbrev pub ChangingListens : Type 0
ChangingListens = (given : List ℕ) (change : Change) (now : ℕ) (c c' : ConnectionSeen) → ConnectionChanges change now c c' → IsListeningTo given c → IsListeningTo given c'

-- what a paint line needs of the client is there
abbrev pub ChangingFits : Type 0
ChangingFits = (desk desk' : List Window) (old : ℕ → Bool) (conn : ℕ) (change : Change) (o : OpenSeen) (sent : List ℕ) → DeskChanges change desk desk'
    → IsToldTo desk old conn (connection_in o).client sent → FitsIn change o.client
