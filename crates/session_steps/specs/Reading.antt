-- A read from a connection: one read of the provider, and each packet that is then whole is handled.
use Rattle.std.specs.Prelude.{ℕ, ◌≡◌, ◌||◌, Bool, Option, Some, None, List, [], slice_set, is_some}
use Rattle.xp_base.specs.Counts.{count_sum}
use Rattle.xp_base.specs.declared.numbers.Conn.{Conn}
use Rattle.link_bay.specs.Connections.{ConnectionRecord, OthersStay}
use Rattle.link_bay.specs.Answers.{ReadGives}
use Rattle.link_bay.specs.declared.bay.Gave.{Gave}
use Rattle.link_bay.specs.declared.bay.Gave.TheVariants as G
use Rattle.client_talk.specs.declared.ending.Ending.{Ending}
use Rattle.client_talk.specs.declared.ending.Ending.TheVariants as W
use Rattle.attached_client.specs.Client.{ClientSeen}
use Rattle.attached_client.specs.Acting.{acts}
use Rattle.connection_table.specs.Tables.{Slot, Open, Ended, open_at}
use Rattle.connection_ends.specs.Causes.{end_of}
use Rattle.connection_ends.specs.declared.end.End.{End}
use Rattle.connection_ends.specs.declared.end.End.TheVariants as E
use Rattle.open_connection.specs.Connection.{ConnectionSeen}
use Rattle.open_connection.specs.Reading.{HearGives}
use Rattle.open_connection.specs.declared.heard.Heard.{Heard}
use Rattle.open_connection.specs.declared.heard.Heard.TheVariants as H
use Rattle.connection_steps.specs.Laws.{SaysGoodbye}
use Rattle.session_steps.specs.declared.answers.Received.{Received}
use Rattle.session_steps.specs.declared.answers.Received.TheVariants as R
use Rattle.session_steps.specs.Seen.{Known, Seen}
use Rattle.session_steps.specs.Slots.{overtaken}

-- how many bytes one read asks for at most
abbrev pub read_limit : ℕ
read_limit = 4096

-- before a refused connection is closed its goodbye is written once; others are closed at once
abbrev pub Closes : Ending → ConnectionRecord → ConnectionRecord → Type 0
Closes W.Left r r' = r' ≡ r
Closes (W.Refused why) r r' = SaysGoodbye why r r'
Closes (W.Broken place kind) r r' = r' ≡ r

-- connection c is this one now, or has ended so
abbrev pub puts : {B : Type 0} → Conn → Slot ConnectionSeen End → Seen B → B → Seen B
puts c slot s bay = record s { slots = slice_set s.slots c.0 slot; bay = bay }

-- whether its client was attached before, and what it is now: earlier connections with its uuid are taken over
abbrev pub greeted_by : {B : Type 0} → Conn → Bool → Option ClientSeen → Seen B → Seen B
greeted_by c was_attached after s = record s { slots = overtaken c was_attached after s.slots; greeted = s.greeted || is_some after }

-- so many packets more were ignored
abbrev pub with_ignored : {B : Type 0} → ℕ → Seen B → Seen B
with_ignored more s = record s { ignored = count_sum s.ignored more }

-- what the bytes of a read come to for their connection; its record behind the read and at the end
abbrev pub Finishes : {B : Type 0} → Conn → ConnectionSeen → ℕ → Seen B → ConnectionRecord → ConnectionRecord → Heard → Received → Seen B → Type 0
Finishes c after n s r r' (H.GoesOn ignored) answer new =
    (answer ≡ R.Took n) × (r' ≡ r) × (new ≡ puts c (Open after) (with_ignored ignored s) new.bay)
Finishes c after n s r r' (H.Ends ending ignored) answer new =
    (answer ≡ R.Ended (end_of ending)) × Closes ending r r' × (new ≡ puts c (Ended (end_of ending)) (with_ignored ignored s) new.bay)
Finishes c after n s r r' (H.NoMemory ignored) answer new =
    (answer ≡ R.NoMemory) × (r' ≡ r) × (new ≡ puts c (Ended E.Short) (with_ignored ignored s) new.bay)

-- and for all connections
abbrev pub HeardGives : {B : Type 0} → Conn → ConnectionSeen → ConnectionSeen → ℕ → Seen B → ConnectionRecord → ConnectionRecord → Heard → Received → Seen B → Type 0
HeardGives c before after n old r r' heard answer new = Finishes c after n (greeted_by c (is_some before.client) after.client old) r r' heard answer new

-- bytes that were read, and what they come to
pub record HearsOf {B : Type 0} (c : Conn) (connection : ConnectionSeen) (bytes : List ℕ) (n : ℕ) (old : Seen B) (r r' : ConnectionRecord) (answer : Received) (new : Seen B) : Type 0 where
  pub heard : Heard
  pub after : ConnectionSeen
  pub hears : HearGives (acts old.desk c.0 old.clock) connection bytes heard after
  pub gives : HeardGives c connection after n old r r' heard answer new

-- by what the read gave
abbrev pub ReadComesTo : {B : Type 0} → Conn → ConnectionSeen → List ℕ → Seen B → ConnectionRecord → ConnectionRecord → Gave → Received → Seen B → Type 0
ReadComesTo c connection bytes old r r' (G.Bytes n) answer new = HearsOf c connection bytes n old r r' answer new
ReadComesTo c connection bytes old r r' G.Again answer new = (answer ≡ R.Again) × (r' ≡ r) × (new ≡ record old { bay = new.bay })
ReadComesTo c connection bytes old r r' G.End answer new = (answer ≡ R.Ended E.Left) × (r' ≡ r) × (new ≡ puts c (Ended E.Left) old new.bay)
ReadComesTo c connection bytes old r r' G.Failed answer new = (answer ≡ R.Ended E.LinkFault) × (r' ≡ r) × (new ≡ puts c (Ended E.LinkFault) old new.bay)
ReadComesTo c connection bytes old r r' G.NoMemory answer new = (answer ≡ R.NoMemory) × (r' ≡ r) × (new ≡ puts c (Ended E.Short) old new.bay)

-- one read of an open connection
pub record Reads {B : Type 0} (known : Known B) (c : Conn) (connection : ConnectionSeen) (old : Seen B) (answer : Received) (new : Seen B) : Type 0 where
  pub gave : Gave
  pub bytes : List ℕ
  pub behind : ConnectionRecord
  pub read : ReadGives (known.connection old.bay c.0) behind [] bytes read_limit gave
  pub others : OthersStay (known.connection old.bay) (known.connection new.bay) c.0
  pub provider : known.provider new.bay ≡ known.provider old.bay
  pub comes : ReadComesTo c connection bytes old behind (known.connection new.bay c.0) gave answer new

abbrev pub ReceivesFrom : {B : Type 0} → Known B → Conn → Option ConnectionSeen → Seen B → Received → Seen B → Type 0
ReceivesFrom known c None old answer new = (answer ≡ R.Closed) × (new ≡ old)
ReceivesFrom known c (Some connection) old answer new = Reads known c connection old answer new

abbrev pub Receives : {B : Type 0} → Known B → Conn → Seen B → Received → Seen B → Type 0
Receives known c old answer new = ReceivesFrom known c (open_at old.slots c.0) old answer new
