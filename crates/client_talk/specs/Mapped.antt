-- Which windows a client has mapped, read from the bytes that it gave and from when they were read.
use Rattle.std.specs.Prelude.{ℕ, pos, ◌+◌, ◌<◌, ◌≤◌, ◌≡◌, ◌≢◌, true, Option, Some, None, List, ◌∷◌, ◌++◌, length, take, slice_index, All}
use Rattle.link_bay.specs.Connections.{ConnectionRecord}
use Rattle.window_model.specs.Desktop.{Window, has_window}
use Rattle.packet_kinds.specs.declared.from_client.FromClient.{FromClient}
use Rattle.packet_kinds.specs.declared.from_client.FromClient.TheVariants as C
use Rattle.packet_kinds.specs.Picture.{picture}
use Rattle.packet_kinds.specs.Talk.{Said, talk}
use Rattle.client_talk.specs.Talked.{server_limit}

-- how many bytes a packet or a chunk has at most that a client reads
abbrev pub client_limit : ℕ
client_limit = 67108864

-- the windows that a client shows once these bytes were sent to it; a packet that was sent in part counts for nothing
abbrev pub shows : List ℕ → List Window
shows sent = (picture client_limit sent).windows

-- the client shows the window once the byte at this place was sent
abbrev pub IsShownBy : List ℕ → ℕ → ℕ → Type 0
IsShownBy sent n wid = has_window (shows (take (n + 1) sent)) wid ≡ true

-- the message says that the client maps the window with this number
abbrev pub SaysMapped : ℕ → FromClient → Type 0
SaysMapped wid (C.Hello caps) = ⊥
SaysMapped wid (C.MapWindow number further) = number ≡ pos wid
SaysMapped wid (C.UnmapWindow number further) = ⊥
SaysMapped wid (C.DamageSequence sequence number width height time message) = ⊥
SaysMapped wid (C.BufferRefresh number further) = ⊥
SaysMapped wid (C.Ping t further) = ⊥
SaysMapped wid (C.Disconnect further) = ⊥
SaysMapped wid C.Other = ⊥

-- the message does not say whether the client maps that window
abbrev pub SaysNothing : ℕ → FromClient → Type 0
SaysNothing wid (C.Hello caps) = Unit {0}
SaysNothing wid (C.MapWindow number further) = number ≢ pos wid
SaysNothing wid (C.UnmapWindow number further) = number ≢ pos wid
SaysNothing wid (C.DamageSequence sequence number width height time message) = Unit {0}
SaysNothing wid (C.BufferRefresh number further) = Unit {0}
SaysNothing wid (C.Ping t further) = Unit {0}
SaysNothing wid (C.Disconnect further) = Unit {0}
SaysNothing wid C.Other = Unit {0}

-- the last of these messages that says whether the window is mapped says so, and stands behind so many
pub record EndsMapped (wid count : ℕ) (said : List Said) : Type 0 where
  pub before : List Said
  pub message : Said
  pub after : List Said
  pub said_is : said ≡ before ++ message ∷ after
  pub count_is : length before ≡ count
  pub maps : SaysMapped wid message.message
  pub last : All (λ (m : Said). SaysNothing wid m.message) after

-- The last message on the window in the talk of the bytes given maps it, and was not said yet by the bytes that had been given
-- when some byte was sent with which the client shows the window. (`heard` has a place for each byte sent.)
pub record Maps (wid : ℕ) (sent given heard : List ℕ) : Type 0 where
  pub count : ℕ
  pub place : ℕ
  pub mapped : EndsMapped wid count (talk server_limit given).said
  pub within : place < length sent
  pub shown : IsShownBy sent place wid
  pub later : length (talk server_limit (take (slice_index heard place) given)).said ≤ count

abbrev pub MapsIn : ℕ → Option (List ℕ) → Option (List ℕ) → Option (List ℕ) → Type 0
MapsIn wid None given heard = ⊥
MapsIn wid (Some sent) None heard = ⊥
MapsIn wid (Some sent) (Some given) None = ⊥
MapsIn wid (Some sent) (Some given) (Some heard) = Maps wid sent given heard

-- the connection's client has mapped the window, where the provider tells its bytes
abbrev pub IsMapped : ConnectionRecord → ℕ → Type 0
IsMapped r wid = MapsIn wid r.sent r.given r.heard
