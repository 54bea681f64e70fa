-- A write to a connection: one write of the provider, of what is left of the first packet that waits.
use Rattle.std.specs.Prelude.{ℕ, ◌≡◌, Option, Some, None}
use Rattle.xp_base.specs.declared.numbers.Conn.{Conn}
use Rattle.link_bay.specs.Connections.{OthersStay}
use Rattle.client_outbox.specs.declared.out.Out.{Out}
use Rattle.client_outbox.specs.declared.out.Out.TheVariants as O
use Rattle.connection_table.specs.Tables.{Slot, Open, Ended, open_at}
use Rattle.connection_ends.specs.declared.end.End.{End}
use Rattle.connection_ends.specs.declared.end.End.TheVariants as E
use Rattle.open_connection.specs.Connection.{ConnectionSeen}
use Rattle.open_connection.specs.Sending.{ConnectionSends}
use Rattle.session_steps.specs.declared.answers.Sent.{Sent}
use Rattle.session_steps.specs.declared.answers.Sent.TheVariants as S
use Rattle.session_steps.specs.Seen.{Known, Seen}
use Rattle.session_steps.specs.Reading.{puts}

-- what is answered
abbrev pub sent_of : Out → Sent
sent_of (O.Took n) = S.Took n
sent_of O.Idle = S.Idle
sent_of O.Again = S.Again
sent_of O.Failed = S.Ended E.LinkFault
sent_of O.NoMemory = S.NoMemory

-- the connection goes on so, or has ended where its write failed
abbrev pub slot_after : ConnectionSeen → Out → Slot ConnectionSeen End
slot_after after (O.Took n) = Open after
slot_after after O.Idle = Open after
slot_after after O.Again = Open after
slot_after after O.Failed = Ended E.LinkFault
slot_after after O.NoMemory = Open after

-- what a write comes to
abbrev pub OutGives : {B : Type 0} → Conn → ConnectionSeen → Seen B → Out → Sent → Seen B → Type 0
OutGives c after old out answer new = (answer ≡ sent_of out) × (new ≡ puts c (slot_after after out) old new.bay)

-- one write to an open connection
pub record Writes {B : Type 0} (known : Known B) (c : Conn) (max : ℕ) (connection : ConnectionSeen) (old : Seen B) (answer : Sent) (new : Seen B) : Type 0 where
  pub out : Out
  pub after : ConnectionSeen
  pub sends : ConnectionSends (known.connection old.bay c.0) (known.connection new.bay c.0) connection max out after
  pub others : OthersStay (known.connection old.bay) (known.connection new.bay) c.0
  pub provider : known.provider new.bay ≡ known.provider old.bay
  pub gives : OutGives c after old out answer new

abbrev pub WritesTo : {B : Type 0} → Known B → Conn → ℕ → Option ConnectionSeen → Seen B → Sent → Seen B → Type 0
WritesTo known c max None old answer new = (answer ≡ S.Closed) × (new ≡ old)
WritesTo known c max (Some connection) old answer new = Writes known c max connection old answer new

abbrev pub Sends : {B : Type 0} → Known B → Conn → ℕ → Seen B → Sent → Seen B → Type 0
Sends known c max old answer new = WritesTo known c max (open_at old.slots c.0) old answer new
