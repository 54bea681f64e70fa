-- What settling does to a session: whoever comes is accepted, and for one connection after another reads, captures and writes
-- are made, and then it ends. So nothing is drawn that a capture did not make.
use Rattle.std.specs.Prelude.{ℕ, ◌<◌, ◌≤◌, ◌≡◌, ◌≢◌, ◌⊎◌, Bool, true, false, IsSome, Option, Some, None, List, [], ◌∷◌, slice_get}
use Rattle.link_bay.specs.Connections.{ConnectionRecord, OthersStay, AllStay}
use Rattle.link_bay.specs.Provider.{ProviderRecord}
use Rattle.window_model.specs.Desktop.{Window}
use Rattle.session_core.specs.declared.answers.Accepted.{Accepted}
use Rattle.session_core.specs.declared.answers.Received.{Received}
use Rattle.session_core.specs.declared.answers.Received.TheVariants.{Again}
use Rattle.client_connection.specs.declared.answers.Captured.{Captured}
use Rattle.client_connection.specs.declared.answers.Sent.{Sent}
use Rattle.client_connection.specs.declared.ends.End.{End}
use Rattle.client_connection.specs.declared.ends.End.TheVariants.{Settled}
use Rattle.client_connection.specs.declared.source.Source.{Source}
use Rattle.session_core.specs.Causes.{EndsHaveCauses, EndedStay, SettlingMeans}
use Rattle.client_connection.specs.Clients.{ClientSeen}
use Rattle.client_connection.specs.Delivery.{find_source}
use Rattle.client_connection.specs.Shown.{shows, Differs}
use Rattle.session_core.specs.State.{Seen, open_client, is_unended}
use Rattle.session_core.specs.Steps.{Accepts, Receives, Captures, Sends, with_end}

-- the provider as a whole and all other connections stay as they were
pub record KeepsOthers {B : Type 0} (provider : B → ProviderRecord) (connection : B → ℕ → ConnectionRecord) (k : ℕ) (was now : B) : Type 0 where
  pub provider_stays : provider now ≡ provider was
  pub others : OthersStay (connection was) (connection now) k

-- one act for a connection: a read, a capture or a write
abbrev pub ActsOnce : {B : Type 0} → (B → ProviderRecord) → (B → ℕ → ConnectionRecord) → ℕ → Seen B → Seen B → Type 0
ActsOnce provider connection k old new = KeepsOthers provider connection k old.bay new.bay
    × (((answer : Received) × Receives connection k old answer new)
    ⊎ ((wid : ℕ) × (answer : Captured) × Captures k wid old answer new)
    ⊎ ((most : ℕ) × (answer : Sent) × (1 ≤ most) × Sends connection k most old answer new))

-- acts for a connection, through these sessions
abbrev pub ActsThrough : {B : Type 0} → (B → ProviderRecord) → (B → ℕ → ConnectionRecord) → ℕ → List (Seen B) → Seen B → Seen B → Type 0
ActsThrough provider connection k [] old new = new ≡ old
ActsThrough provider connection k (next ∷ through) old new = ActsOnce provider connection k old next × ActsThrough provider connection k through next new

abbrev pub Acts : {B : Type 0} → (B → ProviderRecord) → (B → ℕ → ConnectionRecord) → ℕ → Seen B → Seen B → Type 0
Acts {B = B} provider connection k old new = (through : List (Seen B)) × ActsThrough provider connection k through old new

-- acts for a connection, the last of which is a read that had to wait
abbrev pub EndsWaiting : {B : Type 0} → (B → ProviderRecord) → (B → ℕ → ConnectionRecord) → ℕ → Seen B → Seen B → Type 0
EndsWaiting {B = B} provider connection k old new = (before : Seen B) × Acts provider connection k old before × KeepsOthers provider connection k before.bay new.bay × Receives connection k before Again new

-- in no window that the client has mapped, as its sources are marked, a pixel differs
abbrev pub ShowsItsMapped : List Window → Option ClientSeen → Option (List ℕ) → Type 0
ShowsItsMapped desk slot told = (c : ClientSeen) (sent : List ℕ) (wid x y : ℕ) (s : Source) → slot ≡ Some c → told ≡ Some sent → find_source c.sources wid ≡ Some s → s.mapped ≡ true
    → Differs desk (shows sent) wid x y → ⊥

-- a connection that is open is closed with this end; `Settled` only where its last picture is right
pub record Closes {B : Type 0} (provider : B → ProviderRecord) (connection : B → ℕ → ConnectionRecord) (k : ℕ) (ended : End) (old new : Seen B) : Type 0 where
  pub was_open : IsSome (open_client old.clients k)
  pub closed : is_unended ended ≡ false
  pub shown : ended ≡ Settled → ShowsItsMapped old.desk (open_client old.clients k) (connection old.bay k).sent
  pub changed : new ≡ with_end k ended new.bay old
  pub connections : AllStay (connection old.bay) (connection new.bay)
  pub provider_stays : provider new.bay ≡ provider old.bay

-- a connection ends so: in its acts, and then this is its end by its number, or it is closed after them
abbrev pub EndsIn : {B : Type 0} → (B → ProviderRecord) → (B → ℕ → ConnectionRecord) → ℕ → End → Seen B → Seen B → Type 0
EndsIn provider connection k ended old new = ((open_client new.clients k ≡ None) × (ended ≢ Settled) × (slice_get new.ends k ≡ Some ended) × (new ≡ old)) ⊎ Closes provider connection k ended old new

-- Acts are made for the open connection of least number until it ends, with a cause that came in them. Where it ends `Settled`
-- the last of them is a read that had to wait.
pub record SettlesOne {B : Type 0} (provider : B → ProviderRecord) (connection : B → ℕ → ConnectionRecord) (k : ℕ) (old new : Seen B) : Type 0 where
  pub least : (d : ℕ) → d < k → open_client old.clients d ≡ None
  pub ended : End
  pub last : Seen B
  pub acts : Acts provider connection k old last
  pub ends : EndsIn provider connection k ended last new
  pub means : SettlingMeans old.lines (connection old.bay k) ended (connection new.bay k)
  pub read_out : ended ≡ Settled → EndsWaiting provider connection k old last

-- one step of settling: somebody is accepted or nobody, or a connection is settled
abbrev pub SettlingStep : {B : Type 0} → (B → ProviderRecord) → (B → ℕ → ConnectionRecord) → Bool → Seen B → Seen B → Type 0
SettlingStep provider connection tells old new =
    ((answer : Accepted) × Accepts provider connection tells old answer new × OthersStay (connection old.bay) (connection new.bay) (provider old.bay).count)
    ⊎ ((k : ℕ) × SettlesOne provider connection k old new)

-- settling, through these sessions
abbrev pub SettlingThrough : {B : Type 0} → (B → ProviderRecord) → (B → ℕ → ConnectionRecord) → Bool → List (Seen B) → Seen B → Seen B → Type 0
SettlingThrough provider connection tells [] old new = new ≡ old
SettlingThrough provider connection tells (next ∷ through) old new = SettlingStep provider connection tells old next × SettlingThrough provider connection tells through next new

abbrev pub Settling : {B : Type 0} → (B → ProviderRecord) → (B → ℕ → ConnectionRecord) → Bool → Seen B → Seen B → Type 0
Settling {B = B} provider connection tells old new = (through : List (Seen B)) × SettlingThrough provider connection tells through old new

-- what settling leaves: it leads from the session to one with these ends and this provider
abbrev pub Settles : {B : Type 0} → (B → ProviderRecord) → (B → ℕ → ConnectionRecord) → Bool → Seen B → List End → B → Type 0
Settles {B = B} provider connection tells old ends bay = (last : Seen B) × Settling provider connection tells old last × (last.ends ≡ ends) × (last.bay ≡ bay)

-- a part of a settling: whatever connections end in it have their causes, and what is known of those that had ended stays
pub record SettlesOn {B : Type 0} (provider : B → ProviderRecord) (connection : B → ℕ → ConnectionRecord) (tells : Bool) (old new : Seen B) : Type 0 where
  pub causes : EndsHaveCauses tells new.lines new.desk (connection new.bay) old.ends new.ends
  pub stays : EndedStay (connection old.bay) (connection new.bay) old.ends
  pub settling : Settling provider connection tells old new
