-- Settling: whoever comes is accepted; reads, captures, results and writes are made; and connections are closed.
use Rattle.std.specs.Prelude.{ℕ, ◌≡◌, ◌≤◌, Bool, Option, Some, None, List, [], ◌∷◌, map, slice_get}
use Rattle.xp_base.specs.declared.numbers.Conn.{Conn}
use Rattle.link_bay.specs.Connections.{ConnectionRecord, AllStay, fresh_connection}
use Rattle.window_model.specs.Desktop.{Window}
use Rattle.attached_client.specs.Client.{ClientSeen}
use Rattle.attached_client.specs.Drawing.{Drawing}
use Rattle.connection_table.specs.Tables.{Ended, open_at}
use Rattle.connection_ends.specs.Causes.{TellsThat, HasCause}
use Rattle.connection_ends.specs.declared.end.End.{End}
use Rattle.connection_ends.specs.declared.end.End.TheVariants as E
use Rattle.connection_steps.specs.Resting.{ShowsItsMapped}
use Rattle.open_connection.specs.Connection.{ConnectionSeen}
use Rattle.session_steps.specs.declared.answers.Accepted.{Accepted}
use Rattle.session_steps.specs.declared.answers.Received.{Received}
use Rattle.session_steps.specs.declared.answers.Sent.{Sent}
use Rattle.session_steps.specs.Seen.{Known, Seen}
use Rattle.session_steps.specs.Accepting.{Accepts}
use Rattle.session_steps.specs.Reading.{Receives, puts}
use Rattle.session_steps.specs.Sending.{Sends}
use Rattle.session_steps.specs.Drawing.{DrawsOn, DrawsAt}
use Rattle.session_steps.specs.Steady.{Phase, Stepping, Settling, TakerIsKnown, EndsIn, IsSteady}

-- the phase that begins with this session
abbrev pub settling_from : {B : Type 0} → Known B → Seen B → Phase
settling_from known s = Settling s.desk s.slots (known.connection s.bay)

-- the client's bytes show the desktop, and no pixel of a window that it has mapped, as its source is marked, differs
abbrev pub ShowsTheDesktop : List Window → ConnectionSeen → ConnectionRecord → Type 0
ShowsTheDesktop desk connection r = (client : ClientSeen) × (connection.client ≡ Some client) × TellsThat r.sent (ShowsItsMapped desk client.seen)

-- an open connection is closed with this end, which has its cause; with `Settled` only where it shows the desktop
pub record Closes {B : Type 0} (known : Known B) (phase : Phase) (c : Conn) (e : End) (old new : Seen B) : Type 0 where
  pub connection : ConnectionSeen
  pub opened : open_at old.slots c.0 ≡ Some connection
  pub taker : TakerIsKnown (known.provider old.bay).count e
  pub cause : EndsIn known.tells phase (known.connection old.bay) c.0 e
  pub shown : e ≡ E.Settled → ShowsTheDesktop old.desk connection (known.connection old.bay c.0)
  pub provider : known.provider new.bay ≡ known.provider old.bay
  pub connections : AllStay (known.connection old.bay) (known.connection new.bay)
  pub changed : new ≡ puts c (Ended e) old new.bay

-- where connection c is open it ends so and is closed, whatever the cause; else nothing changes
pub record EndsNow {B : Type 0} (known : Known B) (c : Conn) (e : End) (old new : Seen B) : Type 0 where
  pub provider : known.provider new.bay ≡ known.provider old.bay
  pub connections : AllStay (known.connection old.bay) (known.connection new.bay)
  pub changed : new ≡ puts c (Ended e) old new.bay

abbrev pub EndsWhere : {B : Type 0} → Known B → Option ConnectionSeen → Conn → End → Seen B → Seen B → Type 0
EndsWhere known None c e old new = new ≡ old
EndsWhere known (Some connection) c e old new = EndsNow known c e old new

abbrev pub EndsOpen : {B : Type 0} → Known B → Conn → End → Seen B → Seen B → Type 0
EndsOpen known c e old new = EndsWhere known (open_at old.slots c.0) c e old new

pub data Act : Type 0 where
  Accepting : Accepted → Act
  Reading : Conn → Received → Act
  -- at most so many bytes are offered
  Writing : Conn → ℕ → Sent → Act
  Drawn : Conn → Drawing → Act
  Closing : Conn → End → Act

abbrev pub ActsSo : {B : Type 0} → Known B → Phase → Act → Seen B → Seen B → Type 0
ActsSo known phase (Accepting answer) old new = Accepts known old answer new
ActsSo known phase (Reading c answer) old new = Receives known c old answer new
ActsSo known phase (Writing c max answer) old new = (1 ≤ max) × Sends known c max old answer new
ActsSo known phase (Drawn c drawing) old new = DrawsOn c drawing old new
ActsSo known phase (Closing c e) old new = Closes known phase c e old new

-- these acts in order
abbrev pub SettlesBy : {B : Type 0} → Known B → Phase → List Act → Seen B → Seen B → Type 0
SettlesBy known phase [] old new = new ≡ old
SettlesBy {B = B} known phase (act ∷ acts) old new = (next : Seen B) × ActsSo known phase act old next × SettlesBy known phase acts next new

-- each of these is drawn for connection c
abbrev pub drawn_for : Conn → List Drawing → List Act
drawn_for c drawings = map (Drawn c) drawings

pub record DrawnByActs {B : Type 0} (known : Known B) (phase : Phase) (c : Conn) (old new : Seen B) : Type 0 where
  pub drawings : List Drawing
  pub by : SettlesBy known phase (drawn_for c drawings) old new

-- a window that is drawn at once is drawn by such acts
abbrev pub DrawnAtOnce : Type 0 → Type 0
DrawnAtOnce B = (known : Known B) (phase : Phase) (were_opened : ℕ → Bool) (c : Conn) (place : ℕ) (went_well : Bool) (old new : Seen B) → DrawsAt c place went_well old new
    → IsSteady known phase were_opened old → DrawnByActs known phase c old new

-- what every session keeps is kept from settling's beginning on, by every act
abbrev pub SettlingBegins : Type 0 → Type 0
SettlingBegins B = (known : Known B) (were_opened : ℕ → Bool) (s : Seen B) → IsSteady known Stepping were_opened s → IsSteady known (settling_from known s) were_opened s

abbrev pub SettlingKeeps : Type 0 → Type 0
SettlingKeeps B = (known : Known B) (phase : Phase) (were_opened : ℕ → Bool) (acts : List Act) (old new : Seen B) → SettlesBy known phase acts old new
    → IsSteady known phase were_opened old → IsSteady known phase were_opened new

-- an end of a connection that was open has its cause where this came since some moment of settling
abbrev pub CauseCame : Type 0 → Type 0
CauseCame B = (known : Known B) (were_opened : ℕ → Bool) (began s : Seen B) (k : ℕ) (connection : ConnectionSeen) (now : ℕ → ConnectionRecord) (e : End) → IsSteady known (settling_from known began) were_opened s
    → open_at s.slots k ≡ Some connection → HasCause began.desk (known.connection s.bay) now k e → EndsIn known.tells (settling_from known began) now k e

-- in the end each cause came since the connection was handed out
abbrev pub AllEndRightly : Type 0 → Type 0
AllEndRightly B = (known : Known B) (were_opened : ℕ → Bool) (began s : Seen B) (k : ℕ) (e : End) → IsSteady known Stepping were_opened began → IsSteady known (settling_from known began) were_opened s
    → slice_get s.slots k ≡ Some (Ended e) → HasCause began.desk (λ j. fresh_connection known.tells) (known.connection s.bay) k e
