-- A session, as contracts see it, and what every session keeps.
use Rattle.std.specs.Prelude.{ℕ, ◌≤◌, ◌<◌, ◌^◌, ◌≡◌, Bool, true, false, Option, Some, None, List, length, map, slice_get, slice_set, count_by, is_some}
use Rattle.window_model.specs.Desktop.{Window}
use Rattle.first_script.specs.declared.paint.Paint.{Paint}
use Rattle.first_script.specs.Painting.{desk_at}
use Rattle.client_connection.specs.Clients.{ClientSeen}
use Rattle.client_connection.specs.declared.ends.End.{End}
use Rattle.client_connection.specs.declared.ends.End.TheVariants.{Settled, Unbuilt, Short, Unended}

-- the paint lines and the place in them, the desktop, the connections by their numbers (none where one has ended),
-- the end of each (`Unended` while it is open), and the provider
pub record Seen (B : Type 0) : Type 0 where
  pub lines : List Paint
  pub place : ℕ
  pub desk : List Window
  pub clients : List (Option ClientSeen)
  pub ends : List End
  pub bay : B

-- so many connections may be open at once
abbrev pub capacity : ℕ
capacity = 1

-- how many connections are open
abbrev pub open_count : {A : Type 0} → List (Option A) → ℕ
open_count clients = count_by is_some clients

-- the connection with this number, where it is open
abbrev pub joined : {A : Type 0} → Option (Option A) → Option A
joined None = None
joined (Some slot) = slot

abbrev pub open_client : {A : Type 0} → List (Option A) → ℕ → Option A
open_client clients k = joined (slice_get clients k)

-- whether a connection with this end is open
abbrev pub is_unended : End → Bool
is_unended Settled = false
is_unended Unbuilt = false
is_unended Short = false
is_unended Unended = true

-- the desktop is that of the lines applied so far; the place k of the lists is the connection k of the provider,
-- whose numbers are 32 bits; and a connection is open exactly while its end is `Unended`
pub record IsSession {A : Type 0} (lines : List Paint) (place : ℕ) (desk : List Window) (clients : List (Option A)) (ends : List End) (count : ℕ) : Type 0 where
  pub within : place ≤ length lines
  pub painted : desk ≡ desk_at lines place
  pub known : length clients ≡ count
  pub ended : length ends ≡ count
  pub numbered : count < 2 ^ 32
  pub live : map is_some clients ≡ map is_unended ends

-- the paint lines, the place in them and the desktop stay
pub record KeepsWindows {B : Type 0} (old new : Seen B) : Type 0 where
  pub lines : new.lines ≡ old.lines
  pub place : new.place ≡ old.place
  pub desk : new.desk ≡ old.desk

-- the ends once this connection has ended so, where it has
abbrev pub ends_with : Option End → ℕ → List End → List End
ends_with None k ends = ends
ends_with (Some ended) k ends = slice_set ends k ended
