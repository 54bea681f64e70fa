-- What waits for a connection is written.
use Rattle.std.specs.Prelude.{ℕ, ◌≡◌, Bool, false, Option, None, Some, []}
use Rattle.connection_table.specs.Tables.{open_at}
use Rattle.attached_client.specs.Client.{ClientSeen}
use Rattle.open_connection.specs.Connection.{ConnectionSeen}
use Rattle.session_steps.specs.Seen.{Known, Seen}
use Rattle.session_settling.specs.Reading.{StaysOpen}

-- the client of a connection that is open and whose hello was accepted
abbrev pub client_where : Option ConnectionSeen → Option ClientSeen
client_where None = None
client_where (Some connection) = connection.client

abbrev pub client_at : {B : Type 0} → ℕ → Seen B → Option ClientSeen
client_at k s = client_where (open_at s.slots k)

-- no packet waits for it
abbrev pub NothingWaits : Option ClientSeen → Type 0
NothingWaits None = Unit {0}
NothingWaits (Some client) = client.seen.out.packets ≡ []

-- its sources are as before
abbrev pub SourcesStay : Option ClientSeen → Option ClientSeen → Type 0
SourcesStay None None = Unit {0}
SourcesStay None (Some client') = ⊥
SourcesStay (Some client) None = ⊥
SourcesStay (Some client) (Some client') = client'.seen.sources ≡ client.seen.sources

-- no byte was read; and where nothing waited, nothing became of the connection
pub record OnlyWrites {B : Type 0} (known : Known B) (k : ℕ) (waited : Bool) (old new : Seen B) : Type 0 where
  pub given : (known.connection new.bay k).given ≡ (known.connection old.bay k).given
  pub quiet : waited ≡ false → known.connection new.bay k ≡ known.connection old.bay k

-- it is open, and nothing waits any more
pub record IsWritten {B : Type 0} (known : Known B) (k : ℕ) (waited : Bool) (old new : Seen B) : Type 0 where
  pub opened : StaysOpen k new
  pub empty : NothingWaits (client_at k new)
  pub sources : SourcesStay (client_at k old) (client_at k new)
  pub only : OnlyWrites known k waited old new
  pub none : NothingWaits (client_at k old) → waited ≡ false

abbrev pub WritesOut : {B : Type 0} → Known B → ℕ → Seen B → Option Bool → Seen B → Type 0
WritesOut known k old None new = open_at new.slots k ≡ None
WritesOut known k old (Some waited) new = IsWritten known k waited old new
