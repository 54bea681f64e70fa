-- What a client shows, read from the bytes sent to it, and where it differs from the desktop.
use Rattle.std.specs.Prelude.{ℕ, ◌≡◌, ◌≢◌, true, Option, Some, List, ◌++◌, drop, map}
use Rattle.std.specs.List.{concat}
use Rattle.std.specs.Option.{option_and_then}
use Rattle.xp_base.specs.Grid.{number_at}
use Rattle.window_model.specs.Desktop.{Window, find_window}
use Rattle.delivery_model.specs.Invariant.{NewestAreCurrent, NothingInFront}
use Rattle.packet_kinds.specs.Picture.{picture}
use Rattle.packet_kinds.specs.Written.{Show}
use Rattle.client_connection.specs.declared.packet.Packet.{Packet}
use Rattle.client_connection.specs.declared.source.Source.{Source}
use Rattle.client_connection.specs.Wire.{client_limit}
use Rattle.client_connection.specs.Clients.{ClientSeen, front_rest}
use Rattle.client_connection.specs.Owed.{client_owes}
use Rattle.client_connection.specs.Delivery.{waiting_on, find_source, delivery}
use Rattle.client_connection.specs.Told.{layout, IsTold}

-- the windows that a client shows once these bytes were sent to it; a packet that was sent in part counts for nothing
abbrev pub shows : List ℕ → List Window
shows sent = (picture client_limit sent).windows

-- the number at a point of the window with this number; none where there is no such window, or no such point in it
abbrev pub number_on : List Window → ℕ → ℕ → ℕ → Option ℕ
number_on windows wid x y = option_and_then (λ (w : Window). number_at w.w w.h w.pixels x y) (find_window windows wid)

-- a differing pixel: the desktop has the point, and the client's window is not there, or has no such point, or another number there
abbrev pub Differs : List Window → List Window → ℕ → ℕ → ℕ → Type 0
Differs desk windows wid x y = (n : ℕ) × (number_on desk wid x y ≡ Some n) × (number_on windows wid x y ≢ Some n)

-- each differing pixel is owed
abbrev pub OwesWhatDiffers : List Window → ClientSeen → List ℕ → Type 0
OwesWhatDiffers desk c sent = (wid x y : ℕ) → Differs desk (shows sent) wid x y → client_owes wid x y c ≡ true

-- the bytes that wait
abbrev pub unsent : ClientSeen → List ℕ
unsent c = front_rest c.packets c.taken ++ concat (map (λ (p : Packet). p.bytes) (drop 1 c.packets))

-- once they are sent the stream has no fault and nothing unread, and the client shows the desktop's windows in its order, with
-- its places and sizes
abbrev pub WillShowTheDesktop : List Window → ClientSeen → List ℕ → Type 0
WillShowTheDesktop desk c sent = (after : List Window) × Show client_limit (sent ++ unsent c) after × (layout after ≡ layout desk)

-- of each window: of the draws that wait the newest that cover a point that is not pending are current, and nothing is owed
-- only in front of the window's announcement
abbrev pub WindowsAreSteady : (desk : List Window) (c : ClientSeen) (sent : List ℕ) → IsTold desk c sent → Type 0
WindowsAreSteady desk c sent told = (wid : ℕ) (window : Window) (s : Source) → find_window desk wid ≡ Some window → find_source c.sources wid ≡ Some s
    → NewestAreCurrent (delivery window (find_window told.windows wid) (waiting_on wid c.packets told.messages) s)
    × NothingInFront (delivery window (find_window told.windows wid) (waiting_on wid c.packets told.messages) s)
