-- The bytes that a client gave, of the forms that are built, and what a session keeps of them.
use Rattle.std.specs.Prelude.{ℕ, ◌+◌, ◌<◌, ◌≤◌, ◌≡◌, Bool, true, false, Option, Some, None, List, [], ◌++◌, length, take, replicate, slice_index, is_some}
use Rattle.std.specs.List.{concat}
use Rattle.link_bay.specs.Connections.{ConnectionRecord}
use Rattle.window_model.specs.Desktop.{Window, has_window}
use Rattle.first_script.specs.declared.paint.Paint.{Paint}
use Rattle.client_connection.specs.declared.geometry.Geometry.{Geometry}
use Rattle.client_connection.specs.declared.source.Source.{Source}
use Rattle.client_connection.specs.Wire.{exact_hello, map_window}
use Rattle.client_connection.specs.Clients.{ClientSeen}
use Rattle.client_connection.specs.Hearing.{script_window, IsPartOf, AreMaps, begun}
use Rattle.client_connection.specs.Delivery.{find_source}
use Rattle.client_connection.specs.Shown.{shows}

-- the most that a client may say: an exact client's hello, and a thousand maps of the window that the script opens
abbrev pub all_said : Option Geometry → List ℕ
all_said None = exact_hello
all_said (Some g) = exact_hello ++ concat (replicate 1000 (map_window g))

-- bytes of a form that is built: a front of these
abbrev pub IsBuilt : List Paint → List ℕ → Type 0
IsBuilt lines given = (more : List ℕ) × (given ++ more ≡ all_said (script_window lines))

-- the bytes begin with a whole hello
abbrev pub HasHello : List ℕ → Type 0
HasHello given = (more : List ℕ) × (given ≡ exact_hello ++ more)

-- the bytes given are those that were handled, and then those that are no whole packet yet
abbrev pub IsGivenAs : Bool → List Paint → ClientSeen → List ℕ → Type 0
IsGivenAs false lines c given = (c.maps ≡ 0) × (given ≡ c.unread) × IsPartOf c.unread exact_hello
IsGivenAs true lines c given = (maps : List ℕ) × (given ≡ exact_hello ++ maps) × AreMaps (script_window lines) c.maps c.unread maps × (c.maps + begun c.unread ≤ 1000)

abbrev pub IsGiven : List Paint → ClientSeen → List ℕ → Type 0
IsGiven lines c given = IsGivenAs c.greeted lines c given

-- the same where the provider tells the bytes
abbrev pub IsGivenFor : List Paint → ClientSeen → Option (List ℕ) → Type 0
IsGivenFor lines c None = Unit {0}
IsGivenFor lines c (Some given) = IsGiven lines c given

-- the client shows the window once the byte at this place was sent
abbrev pub IsShownBy : List ℕ → ℕ → ℕ → Type 0
IsShownBy sent n wid = has_window (shows (take (n + 1) sent)) wid ≡ true

-- the client's source of the window, where it has one, is not mapped
abbrev pub IsUnmapped : List Source → ℕ → Type 0
IsUnmapped sources wid = (s : Source) → find_source sources wid ≡ Some s → s.mapped ≡ false

-- What a session keeps of a client, the bytes sent to it and given by it, and how many had been given when each byte was sent:
-- while a window is not mapped, all that the client said whole it had said before it was shown the window.
pub record IsHeard (lines : List Paint) (desk : List Window) (c : ClientSeen) (sent given heard : List ℕ) : Type 0 where
  pub paired : length heard ≡ length sent
  -- before its hello was accepted nothing is sent
  pub silent : c.greeted ≡ false → sent ≡ []
  -- a window that is not on the desktop was never shown
  pub unannounced : (wid n : ℕ) → has_window desk wid ≡ false → n < length sent → has_window (shows (take (n + 1) sent)) wid ≡ false
  pub marks : (g : Geometry) (n : ℕ) → script_window lines ≡ Some g → IsUnmapped c.sources g.wid → n < length sent → IsShownBy sent n g.wid
      → length given ≤ slice_index heard n + length c.unread

-- the same where the provider tells all three
abbrev pub IsHeardFor : List Paint → List Window → ClientSeen → Option (List ℕ) → Option (List ℕ) → Option (List ℕ) → Type 0
IsHeardFor lines desk c None given heard = Unit {0}
IsHeardFor lines desk c (Some sent) None heard = Unit {0}
IsHeardFor lines desk c (Some sent) (Some given) None = Unit {0}
IsHeardFor lines desk c (Some sent) (Some given) (Some heard) = IsHeard lines desk c sent given heard

-- a provider that tells its bytes tells those of the connection
pub record TellsAll (tells : Bool) (r : ConnectionRecord) : Type 0 where
  pub sent : tells ≡ true → is_some r.sent ≡ true
  pub given : tells ≡ true → is_some r.given ≡ true
  pub heard : tells ≡ true → is_some r.heard ≡ true

-- what is kept of a client and its connection, beside what was sent to it
pub record IsKnown (tells : Bool) (lines : List Paint) (desk : List Window) (c : ClientSeen) (r : ConnectionRecord) : Type 0 where
  pub tells_all : TellsAll tells r
  pub given : IsGivenFor lines c r.given
  pub heard : IsHeardFor lines desk c r.sent r.given r.heard
