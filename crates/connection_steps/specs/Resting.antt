-- What follows once a client is at rest, and once it waits though it has said nothing.
use Rattle.std.specs.Prelude.{ℕ, ◌≡◌, Bool, true, false, Option, Some, None, List, []}
use Rattle.xp_base.specs.Counts.{Rose}
use Rattle.link_bay.specs.Connections.{ConnectionRecord}
use Rattle.window_model.specs.Desktop.{Window, IsDesktop}
use Rattle.packet_kinds.specs.Written.{Show}
use Rattle.window_source.specs.Source.{SourceSeen}
use Rattle.client_talk.specs.Mapped.{client_limit}
use Rattle.client_delivery.specs.Attached.{AttachedSeen, find_source}
use Rattle.client_delivery.specs.Delivered.{layout}
use Rattle.client_delivery.specs.Owed.{owes, shows, Differs}
use Rattle.connection_ends.specs.Causes.{TellsThat, IsSettled, HasSaidNothing}
use Rattle.attached_client.specs.Client.{ClientSeen}
use Rattle.attached_client.specs.Clear.{is_clear_client}
use Rattle.open_connection.specs.Connection.{ConnectionSeen}
use Rattle.connection_steps.specs.Kept.{IsConnection}

-- nothing waits to be written, and on the windows that are marked as mapped nothing is owed
pub record IsAtRest (a : AttachedSeen) : Type 0 where
  pub written : a.out.packets ≡ []
  pub clear : (wid x y : ℕ) (s : SourceSeen) → find_source a.sources wid ≡ Some s → s.mapped ≡ true → owes a wid x y ≡ false

-- the bytes sent show the desktop's windows in its order, with its places and sizes, and in those marked as mapped no pixel differs
pub record ShowsItsMapped (desk : List Window) (a : AttachedSeen) (sent : List ℕ) : Type 0 where
  pub clean : Show client_limit sent (shows sent)
  pub laid : layout (shows sent) ≡ layout desk
  pub same : (wid x y : ℕ) (s : SourceSeen) → find_source a.sources wid ≡ Some s → s.mapped ≡ true → Differs desk (shows sent) wid x y → ⊥

abbrev pub RestShows : Type 0
RestShows = (tells : Bool) (desk : List Window) (were_opened : ℕ → Bool) (k : ℕ) (r : ConnectionRecord) (c : ConnectionSeen) (client : ClientSeen) → IsDesktop desk → c.client ≡ Some client
    → IsAtRest client.seen → IsConnection tells desk were_opened k r c → TellsThat r.sent (ShowsItsMapped desk client.seen)

-- where since then a read found nothing more, and nothing was sent after it, the client is settled
abbrev pub RestSettles : Type 0
RestSettles = (tells : Bool) (desk : List Window) (were_opened : ℕ → Bool) (k : ℕ) (was r : ConnectionRecord) (c : ConnectionSeen) (client : ClientSeen) → IsDesktop desk → c.client ≡ Some client
    → Rose was.waits r.waits → r.unheard ≡ 0 → IsAtRest client.seen → IsConnection tells desk were_opened k r c → IsSettled desk was r

-- one whose hello was not accepted yet has given no whole packet
abbrev pub GreetingSaysNothing : Type 0
GreetingSaysNothing = (tells : Bool) (desk : List Window) (were_opened : ℕ → Bool) (k : ℕ) (r : ConnectionRecord) (c : ConnectionSeen) → c.client ≡ None
    → IsConnection tells desk were_opened k r c → TellsThat r.given HasSaidNothing

-- once nothing is left to be drawn and nothing waits to be written, a client is at rest
abbrev pub ClearRests : Type 0
ClearRests = (client : ClientSeen) → is_clear_client client ≡ true → client.seen.out.packets ≡ [] → IsAtRest client.seen
