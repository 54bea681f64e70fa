-- What is kept of a connection that is open, beside what its provider knows of it.
use Rattle.std.specs.Prelude.{ℕ, ◌≡◌, ◌<◌, Bool, true, false, Option, Some, None, List, length}
use Rattle.link_bay.specs.Connections.{ConnectionRecord}
use Rattle.window_model.specs.Desktop.{Window}
use Rattle.window_source.specs.Source.{SourceSeen}
use Rattle.client_talk.specs.Mapped.{IsShownBy}
use Rattle.client_talk.specs.Kept.{IsMarked}
use Rattle.client_delivery.specs.Attached.{find_source}
use Rattle.attached_client.specs.Client.{ClientSeen}
use Rattle.open_connection.specs.Connection.{ConnectionSeen, IsListeningTo}
use Rattle.open_connection.specs.Laws.{IsToldTo}

-- these are the bytes sent and given, and for each byte sent how many were given by then, where the provider tells its bytes
abbrev pub IsToldAs : Bool → ConnectionRecord → List ℕ → List ℕ → List ℕ → Type 0
IsToldAs true r sent given heard = (r.sent ≡ Some sent) × (r.given ≡ Some given) × (r.heard ≡ Some heard)
IsToldAs false r sent given heard = (r.sent ≡ None) × (r.given ≡ None) × (r.heard ≡ None)

-- each window's mark is the last map or unmap that was said of it since it began
abbrev pub AreMarked : Option ClientSeen → List ℕ → List ℕ → List ℕ → Type 0
AreMarked None sent given heard = Unit {0}
AreMarked (Some c) sent given heard = (wid : ℕ) (s : SourceSeen) → find_source c.seen.sources wid ≡ Some s → IsMarked wid s.mapped sent given heard

-- no byte sent shows a window with a number that no line so far has opened
abbrev pub IsUnseen : (ℕ → Bool) → List ℕ → Type 0
IsUnseen were_opened sent = (wid n : ℕ) → were_opened wid ≡ false → n < length sent → IsShownBy sent n wid → ⊥

-- Connection k, beside the desktop and the numbers that were ever opened. Where the provider does not tell its bytes this is so for
-- some bytes.
pub record IsConnection (tells : Bool) (desk : List Window) (were_opened : ℕ → Bool) (k : ℕ) (r : ConnectionRecord) (c : ConnectionSeen) : Type 0 where
  pub sent : List ℕ
  pub given : List ℕ
  pub heard : List ℕ
  pub told : IsToldAs tells r sent given heard
  pub for_each : length heard ≡ length sent
  pub listens : IsListeningTo given c
  pub client : IsToldTo desk were_opened k c.client sent
  pub marks : AreMarked c.client sent given heard
  pub unseen : IsUnseen were_opened sent
