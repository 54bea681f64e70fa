-- What is left of a client's windows is drawn and written.
use Rattle.std.specs.Prelude.{ℕ, ◌≡◌, ◌-◌, ◌≤◌, Bool, true, false, Option, None, Some, slice_get}
use Rattle.window_model.specs.Desktop.{Window}
use Rattle.window_source.specs.Source.{SourceSeen}
use Rattle.client_delivery.specs.Attached.{find_source}
use Rattle.connection_table.specs.Tables.{open_at}
use Rattle.attached_client.specs.Client.{ClientSeen}
use Rattle.last_draws.specs.DrawnThrough.{captures_left, IsNearerIn, OthersStay}
use Rattle.session_steps.specs.Seen.{Known, Seen}
use Rattle.session_steps.specs.Drawing.{is_clear_at}
use Rattle.session_settling.specs.Reading.{StaysOpen}
use Rattle.session_settling.specs.Writing.{client_at, NothingWaits, SourcesStay, OnlyWrites}

-- of this window one capture fewer is left, and the sources of the others are as before
abbrev pub NearerBy : Window → Option ClientSeen → Option ClientSeen → Type 0
NearerBy window None None = Unit {0}
NearerBy window None (Some client') = ⊥
NearerBy window (Some client) None = ⊥
NearerBy window (Some client) (Some client') = IsNearerIn (find_source client.seen.sources window.wid) (find_source client'.seen.sources window.wid) × OthersStay window.wid client client'

abbrev pub NearerAt : Option Window → Option ClientSeen → Option ClientSeen → Type 0
NearerAt None client client' = SourcesStay client client'
NearerAt (Some window) client client' = NearerBy window client client'

-- it is open, nothing waits, and where nothing waited before, the window at this place is nearer to rest
pub record IsDrawnAt {B : Type 0} (known : Known B) (k place : ℕ) (waited : Bool) (old new : Seen B) : Type 0 where
  pub opened : StaysOpen k new
  pub empty : NothingWaits (client_at k new)
  pub nearer : NothingWaits (client_at k old) → NearerAt (slice_get old.desk place) (client_at k old) (client_at k new)
  pub only : OnlyWrites known k waited old new

abbrev pub DrawsOne : {B : Type 0} → Known B → ℕ → ℕ → Seen B → Option Bool → Seen B → Type 0
DrawsOne known k place old None new = open_at new.slots k ≡ None
DrawsOne known k place old (Some waited) new = IsDrawnAt known k place waited old new

-- so many captures, or fewer, bring each of its windows to rest
abbrev pub AreLeft : ℕ → Option ClientSeen → Type 0
AreLeft n None = Unit {0}
AreLeft n (Some client) = (wid : ℕ) (s : SourceSeen) → find_source client.seen.sources wid ≡ Some s → captures_left s ≤ n

-- it is open, nothing waits, and of each window one capture fewer is left; where none was left before, nothing was written
pub record IsDrawn {B : Type 0} (known : Known B) (k : ℕ) (waited : Bool) (old new : Seen B) : Type 0 where
  pub opened : StaysOpen k new
  pub empty : NothingWaits (client_at k new)
  pub nearer : (n : ℕ) → AreLeft n (client_at k old) → AreLeft (n - 1) (client_at k new)
  pub only : OnlyWrites known k waited old new
  pub none : is_clear_at k old ≡ true → NothingWaits (client_at k old) → (waited ≡ false) × (is_clear_at k new ≡ true)

abbrev pub DrawsOut : {B : Type 0} → Known B → ℕ → Seen B → Option Bool → Seen B → Type 0
DrawsOut known k old None new = open_at new.slots k ≡ None
DrawsOut known k old (Some waited) new = IsDrawn known k waited old new
