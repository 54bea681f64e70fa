-- Each step keeps what every session keeps.
use Rattle.std.specs.Prelude.{ℕ, ◌≡◌, Bool, false, Some, List, []}
use Rattle.link_bay.specs.Connections.{ConnectionRecord, AllStay}
use Rattle.link_bay.specs.Provider.{ProviderRecord, IsFresh}
use Rattle.xp_base.specs.declared.numbers.Conn.{Conn}
use Rattle.window_model.specs.Desktop.{Window, IsDesktop}
use Rattle.client_delivery.specs.Keeping.{HoldsDesk}
use Rattle.client_delivery.specs.Owed.{OwesWhatDiffers}
use Rattle.attached_client.specs.declared.change.Change.{Change}
use Rattle.attached_client.specs.Client.{ClientSeen}
use Rattle.attached_client.specs.Desktops.{DeskChanges, NumbersChange}
use Rattle.connection_table.specs.Tables.{open_at}
use Rattle.connection_ends.specs.Causes.{TellsThat}
use Rattle.open_connection.specs.Connection.{ConnectionSeen}
use Rattle.session_steps.specs.declared.answers.Accepted.{Accepted}
use Rattle.session_steps.specs.declared.answers.Received.{Received}
use Rattle.session_steps.specs.declared.answers.Sent.{Sent}
use Rattle.session_steps.specs.Seen.{Known, Seen, ticked}
use Rattle.session_steps.specs.Accepting.{Accepts}
use Rattle.session_steps.specs.Reading.{Receives}
use Rattle.session_steps.specs.Sending.{Sends}
use Rattle.session_steps.specs.Painting.{AllFit, Paints}
use Rattle.session_steps.specs.Steady.{Phase, Stepping, IsSteady}

-- a session before its first step
abbrev pub begun : {B : Type 0} → B → Seen B
begun bay = record { desk = []; clock = 0; slots = []; ignored = 0; greeted = false; accept_failed = false; bay = bay }

abbrev pub BeginsSteady : Type 0 → Type 0
BeginsSteady B = (known : Known B) (were_opened : ℕ → Bool) (bay : B) → IsFresh (known.provider bay) → IsSteady known Stepping were_opened (begun bay)

-- the clock goes on, and a provider is asked for peers
abbrev pub TickKeeps : Type 0 → Type 0
TickKeeps B = (known : Known B) (phase : Phase) (were_opened : ℕ → Bool) (moment : ℕ) (s : Seen B) → IsSteady known phase were_opened s → IsSteady known phase were_opened (ticked moment s)

abbrev pub OrderKeeps : Type 0 → Type 0
OrderKeeps B = (known : Known B) (phase : Phase) (were_opened : ℕ → Bool) (s : Seen B) (bay : B) → (known.provider bay).count ≡ (known.provider s.bay).count → (known.provider bay).faults ≡ (known.provider s.bay).faults
    → AllStay (known.connection s.bay) (known.connection bay) → IsSteady known phase were_opened s → IsSteady known phase were_opened (record s { bay = bay })

abbrev pub AcceptKeeps : Type 0 → Type 0
AcceptKeeps B = (known : Known B) (phase : Phase) (were_opened : ℕ → Bool) (old new : Seen B) (answer : Accepted) → Accepts known old answer new → IsSteady known phase were_opened old → IsSteady known phase were_opened new

abbrev pub ReceiveKeeps : Type 0 → Type 0
ReceiveKeeps B = (known : Known B) (phase : Phase) (were_opened : ℕ → Bool) (c : Conn) (old new : Seen B) (answer : Received) → Receives known c old answer new → IsSteady known phase were_opened old → IsSteady known phase were_opened new

abbrev pub SendKeeps : Type 0 → Type 0
SendKeeps B = (known : Known B) (phase : Phase) (were_opened : ℕ → Bool) (c : Conn) (max : ℕ) (old new : Seen B) (answer : Sent) → Sends known c max old answer new → IsSteady known phase were_opened old → IsSteady known phase were_opened new

-- a paint line, which changes the desktop and the numbers opened so far as the change says
abbrev pub PaintKeeps : Type 0 → Type 0
PaintKeeps B = (known : Known B) (was_opened is_opened : ℕ → Bool) (change : Change) (desk' : List Window) (old new : Seen B) → IsDesktop desk' → HoldsDesk desk' is_opened
    → DeskChanges change old.desk desk' → NumbersChange change was_opened is_opened → Paints change desk' old new
    → IsSteady known Stepping was_opened old → IsSteady known Stepping is_opened new

-- what the line needs of each client is there
abbrev pub PaintFits : Type 0 → Type 0
PaintFits B = (known : Known B) (phase : Phase) (were_opened : ℕ → Bool) (change : Change) (desk' : List Window) (s : Seen B) → DeskChanges change s.desk desk' → IsSteady known phase were_opened s → AllFit change s.slots

-- each pixel in which the picture of an attached client, read from the bytes sent to it, differs from the desktop is owed by its source
abbrev pub SessionOwesWhatDiffers : Type 0 → Type 0
SessionOwesWhatDiffers B = (known : Known B) (phase : Phase) (were_opened : ℕ → Bool) (s : Seen B) (k : ℕ) (c : ConnectionSeen) (client : ClientSeen) → IsSteady known phase were_opened s → open_at s.slots k ≡ Some c → c.client ≡ Some client
    → TellsThat (known.connection s.bay k).sent (OwesWhatDiffers s.desk client.seen)
