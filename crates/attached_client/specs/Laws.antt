-- What follows of what a client says.
use Rattle.std.specs.Prelude.{ℕ, ◌≡◌, ◌==◌, ◌&&◌, ◌||◌, Bool, false, Option, Some, None, List}
use Rattle.window_model.specs.Desktop.{Window, IsDesktop}
use Rattle.hello_caps.specs.declared.caps.Caps.{Caps}
use Rattle.packet_kinds.specs.declared.from_client.FromClient.{FromClient}
use Rattle.packet_kinds.specs.declared.from_client.FromClient.TheVariants as C
use Rattle.window_source.specs.Source.{SourceSeen}
use Rattle.window_source.specs.Calls.{is_negative}
use Rattle.client_delivery.specs.Attached.{AttachedSeen, find_source}
use Rattle.client_delivery.specs.Delivered.{IsTold}
use Rattle.client_delivery.specs.Owed.{owes}
use Rattle.client_delivery.specs.Owing.{quiet_owes}
use Rattle.client_delivery.specs.Steps.{Attaches, Acknowledging, Refreshing}
use Rattle.attached_client.specs.Client.{ClientSeen, attached_at}
use Rattle.client_talk.specs.Laws.{Marks}
use Rattle.attached_client.specs.Acting.{acted, acts, at_window}

-- a client that was just attached, as the steps of a client say it
abbrev pub AttachesSo : Type 0
AttachesSo = (desk : List Window) (conn now : ℕ) (caps : Caps) → IsDesktop desk → let c = attached_at desk conn now caps in Attaches desk conn now c.seen

-- a message keeps that each window is the model's
abbrev pub ActingKeeps : Type 0
ActingKeeps = (desk : List Window) (were_opened : ℕ → Bool) (now : ℕ) (m : FromClient) (a : AttachedSeen) (sent : List ℕ)
    → IsTold desk were_opened a sent → IsTold desk were_opened (acted now m a) sent

-- the mark of the window with this number, where the client has it
abbrev pub mark_in : Option SourceSeen → Option Bool
mark_in None = None
mark_in (Some s) = Some s.mapped

abbrev pub mark_on : ℕ → ClientSeen → Option Bool
mark_on wid c = mark_in (find_source c.seen.sources wid)

-- messages mark a window as they say
abbrev pub ActingMarks : Type 0
ActingMarks = (desk : List Window) (conn now wid : ℕ) → Marks (acts desk conn now) wid (mark_on wid)

-- what a message makes owed of a window: a refresh the whole window, an acknowledgement with a negative time its draw's rectangle
abbrev pub said_owes : ℕ → FromClient → AttachedSeen → ℕ → ℕ → ℕ → Bool
said_owes now (C.Hello caps) a k x y = false
said_owes now (C.MapWindow number further) a k x y = false
said_owes now (C.UnmapWindow number further) a k x y = false
said_owes now (C.DamageSequence sequence number w h time message) a k x y =
    at_window number false (λ j. (k == j) && at_window sequence false (λ s. quiet_owes (Acknowledging s (is_negative time) now) a k x y))
said_owes now (C.BufferRefresh number further) a k x y = at_window number false (λ j. (k == j) && quiet_owes (Refreshing now) a k x y)
said_owes now (C.Ping t further) a k x y = false
said_owes now (C.Disconnect further) a k x y = false
said_owes now C.Other a k x y = false

-- owed is what was owed, and that
abbrev pub ActingOwes : Type 0
ActingOwes = (now : ℕ) (m : FromClient) (a : AttachedSeen) (k x y : ℕ) → owes (acted now m a) k x y ≡ (owes a k x y || said_owes now m a k x y)
