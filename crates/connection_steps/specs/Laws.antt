-- Each step of a connection keeps what is kept of it.
use Rattle.std.specs.Prelude.{ℕ, ◌≡◌, ◌⊎◌, Bool, false, Option, Some, None, List}
use Rattle.xp_base.specs.Told.{told_append}
use Rattle.packet_frames.specs.Written.{packet_bytes}
use Rattle.hello_caps.specs.Replies.{goodbye_value}
use Rattle.hello_caps.specs.declared.caps.HelloFault.{HelloFault}
use Rattle.link_bay.specs.Connections.{ConnectionRecord, fresh_connection}
use Rattle.link_bay.specs.Answers.{WriteGives}
use Rattle.link_bay.specs.declared.bay.Wrote.{Wrote}
use Rattle.packet_kinds.specs.Talk.{talk}
use Rattle.window_source.specs.Source.{SourceSeen}
use Rattle.window_model.specs.Desktop.{Window, IsDesktop}
use Rattle.client_outbox.specs.declared.out.Out.{Out}
use Rattle.client_talk.specs.declared.ending.Ending.{Ending}
use Rattle.client_talk.specs.declared.ending.Ending.TheVariants as W
use Rattle.client_talk.specs.Talked.{server_limit, HasGreeted}
use Rattle.client_talk.specs.Kept.{Hears, EndsHearing}
use Rattle.client_delivery.specs.Attached.{find_source}
use Rattle.client_delivery.specs.Keeping.{HoldsDesk}
use Rattle.client_delivery.specs.Owed.{OwesWhatDiffers}
use Rattle.connection_ends.specs.Causes.{TellsThat, EndsTalk, IsFrontOf}
use Rattle.attached_client.specs.Client.{ClientSeen}
use Rattle.attached_client.specs.Acting.{acts}
use Rattle.attached_client.specs.Sending.{ClientSends}
use Rattle.open_connection.specs.Connection.{ConnectionSeen, fresh}
use Rattle.open_connection.specs.Laws.{IsToldTo}
use Rattle.open_connection.specs.Reading.{HearGives}
use Rattle.open_connection.specs.declared.heard.Heard.{Heard}
use Rattle.connection_steps.specs.Kept.{IsConnection}

-- one that was just accepted
abbrev pub AcceptedIsKept : Type 0
AcceptedIsKept = (tells : Bool) (desk : List Window) (were_opened : ℕ → Bool) (k : ℕ) → IsConnection tells desk were_opened k (fresh_connection tells) fresh

-- the same bytes were sent and given
pub record SameBytes (r r' : ConnectionRecord) : Type 0 where
  pub sent : r'.sent ≡ r.sent
  pub given : r'.given ≡ r.given
  pub heard : r'.heard ≡ r.heard

-- where no byte is taken or given, as by a read that waits and a write that takes nothing
abbrev pub WaitingKeeps : Type 0
WaitingKeeps = (tells : Bool) (desk : List Window) (were_opened : ℕ → Bool) (k : ℕ) (r r' : ConnectionRecord) (c : ConnectionSeen) → SameBytes r r'
    → IsConnection tells desk were_opened k r c → IsConnection tells desk were_opened k r' c

-- these bytes were given, and nothing else became of it
pub record Gives (bytes : List ℕ) (r r' : ConnectionRecord) : Type 0 where
  pub sent : r'.sent ≡ r.sent
  pub given : r'.given ≡ told_append r.given bytes
  pub heard : r'.heard ≡ r.heard

abbrev pub HearingKeeps : Type 0
HearingKeeps = (tells : Bool) (desk : List Window) (were_opened : ℕ → Bool) (k now : ℕ) (r r' : ConnectionRecord) (c c' : ConnectionSeen) (bytes : List ℕ) (ignored : ℕ) → IsDesktop desk → HoldsDesk desk were_opened
    → Gives bytes r r' → Hears (acts desk k now) c.framing c.client bytes c'.framing c'.client ignored
    → IsConnection tells desk were_opened k r c → IsConnection tells desk were_opened k r' c'

-- what ends the talk is said by the bytes given
abbrev pub HearingEndsIt : Type 0
HearingEndsIt = (tells : Bool) (desk : List Window) (were_opened : ℕ → Bool) (k now : ℕ) (r r' : ConnectionRecord) (c : ConnectionSeen) (client : Option ClientSeen) (bytes : List ℕ) (ending : Ending) (ignored : ℕ)
    → Gives bytes r r' → EndsHearing (acts desk k now) c.framing c.client bytes ending client ignored
    → IsConnection tells desk were_opened k r c → TellsThat r'.given (EndsTalk ending)

abbrev pub SendingKeeps : Type 0
SendingKeeps = (tells : Bool) (desk : List Window) (were_opened : ℕ → Bool) (k max : ℕ) (r r' : ConnectionRecord) (c c' : ConnectionSeen) (client client' : ClientSeen) (out : Out) → IsDesktop desk
    → c.client ≡ Some client → c' ≡ record c { client = Some client' } → ClientSends r r' client max out client'
    → IsConnection tells desk were_opened k r c → IsConnection tells desk were_opened k r' c'

-- each pixel in which an attached client's picture of the bytes sent differs from the desktop is owed
abbrev pub KeptOwesWhatDiffers : Type 0
KeptOwesWhatDiffers = (tells : Bool) (desk : List Window) (were_opened : ℕ → Bool) (k : ℕ) (r : ConnectionRecord) (c : ConnectionSeen) (client : ClientSeen) → IsDesktop desk → c.client ≡ Some client
    → IsConnection tells desk were_opened k r c → TellsThat r.sent (OwesWhatDiffers desk client.seen)

-- the client's hello is in the bytes given, with its capabilities
abbrev pub GreetsAs : Option (List ℕ) → ClientSeen → Type 0
GreetsAs given client = TellsThat given (λ bytes. HasGreeted (talk server_limit bytes) client.caps)

abbrev pub StandingIsGreeted : Type 0
StandingIsGreeted = (tells : Bool) (desk : List Window) (were_opened : ℕ → Bool) (k : ℕ) (r : ConnectionRecord) (c : ConnectionSeen) (client : ClientSeen) → c.client ≡ Some client
    → IsConnection tells desk were_opened k r c → GreetsAs r.given client

-- of one that a read attached, whatever becomes of it in that read
abbrev pub ReadingGreets : Type 0
ReadingGreets = (tells : Bool) (desk : List Window) (were_opened : ℕ → Bool) (k now : ℕ) (r r' : ConnectionRecord) (c c' : ConnectionSeen) (client : ClientSeen) (bytes : List ℕ) (heard : Heard) → c.client ≡ None → c'.client ≡ Some client
    → Gives bytes r r' → HearGives (acts desk k now) c bytes heard c' → IsConnection tells desk were_opened k r c → GreetsAs r'.given client

-- one that is attached stays so in a read, with its capabilities
abbrev pub ReadingKeepsCaps : Type 0
ReadingKeepsCaps = (desk : List Window) (k now : ℕ) (c c' : ConnectionSeen) (client : ClientSeen) (bytes : List ℕ) (heard : Heard) → c.client ≡ Some client → HearGives (acts desk k now) c bytes heard c'
    → (client' : ClientSeen) × (c'.client ≡ Some client') × (client'.caps ≡ client.caps)

-- the goodbye to a refused client is offered in one write
abbrev pub SaysGoodbye : HelloFault → ConnectionRecord → ConnectionRecord → Type 0
SaysGoodbye why r r' = (wrote : Wrote) × WriteGives r r' (packet_bytes (goodbye_value why) None) wrote

-- what a client that was refused in a read was sent is the front of its goodbye
abbrev pub RefusedGetsGoodbye : Type 0
RefusedGetsGoodbye = (tells : Bool) (desk : List Window) (were_opened : ℕ → Bool) (k now : ℕ) (r r' r'' : ConnectionRecord) (c : ConnectionSeen) (client : Option ClientSeen) (bytes : List ℕ) (why : HelloFault) (ignored : ℕ)
    → Gives bytes r r' → EndsHearing (acts desk k now) c.framing c.client bytes (W.Refused why) client ignored → SaysGoodbye why r' r''
    → IsConnection tells desk were_opened k r c → TellsThat r''.given (EndsTalk (W.Refused why)) × TellsThat r''.sent (IsFrontOf (packet_bytes (goodbye_value why) None))

-- numbers are only opened more
abbrev pub OpensMore : (ℕ → Bool) → (ℕ → Bool) → Type 0
OpensMore old new = (k : ℕ) → new k ≡ false → old k ≡ false

-- each window's mark is as before, or that of a window whose number was not opened before
abbrev pub MarksStay : (ℕ → Bool) → ClientSeen → ClientSeen → Type 0
MarksStay were_opened c c' = (wid : ℕ) (s' : SourceSeen) → find_source c'.seen.sources wid ≡ Some s'
    → ((s : SourceSeen) × (find_source c.seen.sources wid ≡ Some s) × (s'.mapped ≡ s.mapped)) ⊎ ((s'.mapped ≡ false) × (were_opened wid ≡ false))

-- a client that is there stays, with its capabilities and its marks
abbrev pub ClientStays : (ℕ → Bool) → Option ClientSeen → Option ClientSeen → Type 0
ClientStays were_opened None None = Unit {0}
ClientStays were_opened None (Some c') = ⊥
ClientStays were_opened (Some c) None = ⊥
ClientStays were_opened (Some c) (Some c') = (c'.caps ≡ c.caps) × MarksStay were_opened c c'

-- a paint line: the client is told of the desktop after it
abbrev pub ChangingKeeps : Type 0
ChangingKeeps = (tells : Bool) (desk desk' : List Window) (old new : ℕ → Bool) (k : ℕ) (r : ConnectionRecord) (c c' : ConnectionSeen) → OpensMore old new → c'.framing ≡ c.framing → ClientStays old c.client c'.client
    → ((sent : List ℕ) → IsToldTo desk old k c.client sent → IsToldTo desk' new k c'.client sent)
    → IsConnection tells desk old k r c → IsConnection tells desk' new k r c'
