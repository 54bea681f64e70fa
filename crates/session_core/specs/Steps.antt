-- What each step of a session may answer, and what it leaves.
use Rattle.std.specs.Prelude.{ℕ, ◌+◌, ◌<◌, ◌≤◌, ◌≡◌, Bool, Option, Some, None, List, [], ◌∷◌, ◌++◌, map, MatchOption, slice_get, slice_set}
use Rattle.std.specs.Option.{option_map}
use Rattle.window_model.specs.Desktop.{Window, find_window}
use Rattle.link_bay.specs.Connections.{ConnectionRecord}
use Rattle.link_bay.specs.Provider.{ProviderRecord}
use Rattle.link_bay.specs.Answers.{AcceptGives}
use Rattle.link_bay.specs.declared.bay.Accept.TheVariants as L
use Rattle.first_script.specs.declared.paint.Paint.{Paint}
use Rattle.first_script.specs.Painting.{painted}
use Rattle.session_core.specs.declared.answers.Painted.{Painted}
use Rattle.session_core.specs.declared.answers.Painted.TheVariants as P
use Rattle.session_core.specs.declared.answers.Accepted.{Accepted}
use Rattle.session_core.specs.declared.answers.Accepted.TheVariants as A
use Rattle.session_core.specs.declared.answers.Received.{Received}
use Rattle.session_core.specs.declared.answers.Received.TheVariants as R
use Rattle.client_connection.specs.declared.answers.Captured.{Captured}
use Rattle.client_connection.specs.declared.answers.Captured.TheVariants as C
use Rattle.client_connection.specs.declared.answers.Sent.{Sent}
use Rattle.client_connection.specs.declared.answers.Sent.TheVariants as S
use Rattle.client_connection.specs.declared.ends.End.{End}
use Rattle.client_connection.specs.declared.ends.End.TheVariants as end
use Rattle.client_connection.specs.Clients.{painted_client, ClientSeen, fresh_client}
use Rattle.session_core.specs.Reading.{Reads, EndsReading}
use Rattle.client_connection.specs.Sending.{Writes, WriteEnds}
use Rattle.client_connection.specs.Capturing.{CapturesWindow}
use Rattle.session_core.specs.State.{Seen, capacity, open_count, open_client}

-- the session after its next paint line
abbrev pub after_paint : {B : Type 0} → Paint → Seen B → Seen B
after_paint line old = record old { place = old.place + 1; desk = painted old.desk line; clients = map (option_map (painted_client line)) old.clients }

-- a paint step: finished exactly where no line is left
abbrev pub Paints : {B : Type 0} → Seen B → Painted → Seen B → Type 0
Paints old P.Done new = (line : Paint) × (slice_get old.lines old.place ≡ Some line) × (new ≡ after_paint line old)
Paints old P.Finished new = (slice_get old.lines old.place ≡ None) × (new ≡ old)
Paints old P.NoMemory new = (line : Paint) × (slice_get old.lines old.place ≡ Some line) × (new ≡ old)

-- an accept: full exactly where as many are open as may be; then the provider is not asked
abbrev pub Accepts : {B : Type 0} → (B → ProviderRecord) → (B → ℕ → ConnectionRecord) → Bool → Seen B → Accepted → Seen B → Type 0
Accepts provider connection tells old A.Full new = (capacity ≤ open_count old.clients) × (new ≡ old)
Accepts provider connection tells old (A.Conn c) new = (open_count old.clients < capacity)
    × AcceptGives tells (provider old.bay) (provider new.bay) (connection new.bay) (L.Conn c)
    × (new ≡ record old { clients = old.clients ++ Some fresh_client ∷ []; ends = old.ends ++ end.Unended ∷ []; bay = new.bay })
Accepts provider connection tells old A.Nobody new = (open_count old.clients < capacity)
    × AcceptGives tells (provider old.bay) (provider new.bay) (connection new.bay) L.Nobody × (new ≡ record old { bay = new.bay })
Accepts provider connection tells old A.Failed new = (open_count old.clients < capacity)
    × AcceptGives tells (provider old.bay) (provider new.bay) (connection new.bay) L.Failed × (new ≡ record old { bay = new.bay })
Accepts provider connection tells old A.NoMemory new = (open_count old.clients < capacity)
    × AcceptGives tells (provider old.bay) (provider new.bay) (connection new.bay) L.NoMemory × (new ≡ record old { bay = new.bay })

-- with which end an answer drops a connection
abbrev pub receive_ends : Received → Option End
receive_ends R.Closed = None
receive_ends (R.Took n) = None
receive_ends R.Again = None
receive_ends (R.Ended ended) = Some ended
receive_ends R.NoMemory = Some end.Short

abbrev pub send_ends : Sent → Option End
send_ends S.Closed = None
send_ends S.Idle = None
send_ends (S.Took n) = None
send_ends S.Again = None
send_ends (S.Ended ended) = Some ended
send_ends S.NoMemory = None

-- the session with connection k ended so
abbrev pub with_end : {B : Type 0} → ℕ → End → B → Seen B → Seen B
with_end k ended bay s = record s { clients = slice_set s.clients k None; ends = slice_set s.ends k ended; bay = bay }

-- the session with connection k as it is now
abbrev pub with_client : {B : Type 0} → ℕ → ClientSeen → B → Seen B → Seen B
with_client k c bay s = record s { clients = slice_set s.clients k (Some c); bay = bay }

-- a read from a connection that is open: where it ends the connection, why; else the client is as it is now
abbrev pub ReceivesOne : {B : Type 0} → ℕ → ConnectionRecord → ConnectionRecord → Seen B → ClientSeen → Received → Seen B → Type 0
ReceivesOne k was now old c answer new = MatchOption (receive_ends answer)
    ((c' : ClientSeen) × Reads was now old.lines old.desk c answer c' × (new ≡ with_client k c' new.bay old))
    (λ ended. EndsReading was now old.lines old.desk c answer × (new ≡ with_end k ended new.bay old))

-- a read: closed exactly where the connection is not open
abbrev pub Receives : {B : Type 0} → (B → ℕ → ConnectionRecord) → ℕ → Seen B → Received → Seen B → Type 0
Receives connection k old answer new = MatchOption (open_client old.clients k) ((answer ≡ R.Closed) × (new ≡ old))
    (λ c. ReceivesOne k (connection old.bay k) (connection new.bay k) old c answer new)

-- a capture for a connection that is open: closed where the desktop has no such window, too
abbrev pub CapturesOne : List Window → ℕ → ClientSeen → Captured → ClientSeen → Type 0
CapturesOne desk wid c answer c' = MatchOption (find_window desk wid) ((answer ≡ C.Closed) × (c' ≡ c)) (λ window. CapturesWindow window c answer c')

-- a capture: closed where the connection is not open, too; nothing but the client changes
abbrev pub Captures : {B : Type 0} → ℕ → ℕ → Seen B → Captured → Seen B → Type 0
Captures k wid old answer new = MatchOption (open_client old.clients k) ((answer ≡ C.Closed) × (new ≡ old))
    (λ c. (c' : ClientSeen) × CapturesOne old.desk wid c answer c' × (new ≡ with_client k c' old.bay old))

-- a write to a connection that is open: where it fails the connection has ended, else the client is as it is now
abbrev pub SendsOne : {B : Type 0} → ℕ → ℕ → ConnectionRecord → ConnectionRecord → Seen B → ClientSeen → Sent → Seen B → Type 0
SendsOne k most was now old c answer new = MatchOption (send_ends answer)
    ((c' : ClientSeen) × Writes most was now c answer c' × (new ≡ with_client k c' new.bay old))
    (λ ended. WriteEnds most was now c ended × (new ≡ with_end k ended new.bay old))

-- a write: closed exactly where the connection is not open
abbrev pub Sends : {B : Type 0} → (B → ℕ → ConnectionRecord) → ℕ → ℕ → Seen B → Sent → Seen B → Type 0
Sends connection k most old answer new = MatchOption (open_client old.clients k) ((answer ≡ S.Closed) × (new ≡ old))
    (λ c. SendsOne k most (connection old.bay k) (connection new.bay k) old c answer new)

-- the end that an accept puts at the end of the list
abbrev pub accepted_ends : Accepted → List End
accepted_ends A.Full = []
accepted_ends (A.Conn c) = end.Unended ∷ []
accepted_ends A.Nobody = []
accepted_ends A.Failed = []
accepted_ends A.NoMemory = []
