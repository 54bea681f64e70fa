-- What follows of an attached client: each differing pixel is owed, and how each step changes what is owed.
use Rattle.std.specs.Prelude.{ℕ, ◌≡◌, ◌==◌, Bool, true, false, not, ◌&&◌, ◌||◌, ℤ, Option, Some, None, List, [], ◌∷◌, drop, if◌then◌else◌}
use Rattle.std.specs.List.{list_any}
use Rattle.xp_base.specs.Captures.{Captured}
use Rattle.xp_base.specs.Points.{Rectangle, is_in, is_within}
use Rattle.rect_regions.specs.PointSets.{has as has_point}
use Rattle.delivery_model.specs.Window.{Sent}
use Rattle.delivery_model.specs.Events.{Planned, damaged, rect_sent}
use Rattle.window_model.specs.Desktop.{Window, IsDesktop, find_window, fresh_window}
use Rattle.packet_kinds.specs.declared.to_client.ToClient.{ToClient}
use Rattle.client_outbox.specs.Reliefs.{draws_in}
use Rattle.client_outbox.specs.Sending.{advanced}
use Rattle.window_source.specs.Source.{SourceSeen}
use Rattle.window_source.specs.Waiting.{Queued}
use Rattle.client_delivery.specs.Attached.{AttachedSeen, find_source}
use Rattle.client_delivery.specs.Delivered.{is_draw, IsTold}
use Rattle.client_delivery.specs.Owed.{owes, source_owes, OwesWhatDiffers}
use Rattle.client_delivery.specs.Steps.{Attaches, Quiet, Mapping, Unmapping, GivingBack, Acknowledging, Refreshing, quiet, changes_source, Opens, Closes, Resizes, PutsAlone, Captures, Files, writes}

-- each differing pixel is owed
abbrev pub ToldOwesWhatDiffers : Type 0
ToldOwesWhatDiffers = (desk : List Window) (were_opened : ℕ → Bool) (a : AttachedSeen) (sent : List ℕ) → IsDesktop desk → IsTold desk were_opened a sent → OwesWhatDiffers desk a sent

-- the desktop has the point; a source's window has it
abbrev pub on_desk : List Window → ℕ → ℕ → ℕ → Bool
on_desk desk k x y = list_any (λ (w : Window). (w.wid == k) && is_within w.w w.h x y) desk

abbrev pub is_in_source : Option SourceSeen → ℕ → ℕ → Bool
is_in_source None x y = false
is_in_source (Some s) x y = is_within s.wide s.high x y

abbrev pub has_place : AttachedSeen → ℕ → ℕ → ℕ → Bool
has_place a k x y = is_in_source (find_source a.sources k) x y

-- a hello is accepted: the whole of each window of the desktop
abbrev pub AttachOwes : Type 0
AttachOwes = (desk : List Window) (conn now : ℕ) (a : AttachedSeen) (k x y : ℕ) → IsDesktop desk → Attaches desk conn now a → owes a k x y ≡ on_desk desk k x y

-- fill, copy and noise: what was owed, and the rectangle
abbrev pub PaintOwes : Type 0
PaintOwes = (wid : ℕ) (r : Rectangle) (now : ℕ) (a : AttachedSeen) (k x y : ℕ)
    → owes (changes_source wid (damaged r now) a) k x y ≡ (owes a k x y || ((k == wid) && (has_place a k x y && is_in r x y)))

-- a window is opened: what was owed, and the whole new window
abbrev pub OpenOwes : Type 0
OpenOwes = (wid : ℕ) (left top : ℤ) (w h conn now : ℕ) (a a' : AttachedSeen) (k x y : ℕ) → find_source a.sources wid ≡ None → Opens (fresh_window wid left top w h) conn now a a'
    → owes a' k x y ≡ (owes a k x y || ((k == wid) && is_within w h x y))

-- a window is closed: nothing of it
abbrev pub CloseOwes : Type 0
CloseOwes = (wid : ℕ) (a a' : AttachedSeen) (k x y : ℕ) → Closes wid a a' → owes a' k x y ≡ (owes a k x y && not (k == wid))

-- a resize: the points owed before that lie in the new window, and the points of the new window that were not in the old one
abbrev pub owed_resized : AttachedSeen → ℕ → ℕ → ℕ → ℕ → ℕ → Bool
owed_resized a w h k x y = is_within w h x y && (owes a k x y || not (has_place a k x y))

abbrev pub ResizeOwes : Type 0
ResizeOwes = (wid w h now : ℕ) (a a' : AttachedSeen) (s : SourceSeen) (k x y : ℕ) → find_source a.sources wid ≡ Some s → Resizes wid w h now a a'
    → owes a' k x y ≡ (if k == wid then owed_resized a w h k x y else owes a k x y)

-- a move, a raise, an answer to a ping: as before
abbrev pub PutOwes : Type 0
PutOwes = (m : ToClient) (a a' : AttachedSeen) (k x y : ℕ) → is_draw m ≡ false → PutsAlone m a a' → owes a' k x y ≡ owes a k x y

-- what a client says: map, unmap and giving back as before; a refresh the whole window; an acknowledgement with a negative time its draw's rectangle
abbrev pub is_acknowledged_late : Option Rectangle → Bool → ℕ → ℕ → Bool
is_acknowledged_late None negative x y = false
is_acknowledged_late (Some r) negative x y = negative && is_in r x y

abbrev pub unacknowledged_of : Option SourceSeen → List Sent
unacknowledged_of None = []
unacknowledged_of (Some s) = s.unacknowledged

abbrev pub quiet_owes : Quiet → AttachedSeen → ℕ → ℕ → ℕ → Bool
quiet_owes Mapping a k x y = false
quiet_owes (Unmapping now) a k x y = false
quiet_owes (GivingBack now) a k x y = false
quiet_owes (Acknowledging number negative now) a k x y = has_place a k x y && is_acknowledged_late (rect_sent (unacknowledged_of (find_source a.sources k)) number) negative x y
quiet_owes (Refreshing now) a k x y = has_place a k x y

abbrev pub QuietOwes : Type 0
QuietOwes = (wid : ℕ) (q : Quiet) (a : AttachedSeen) (k x y : ℕ) → owes (changes_source wid (quiet q) a) k x y ≡ (owes a k x y || ((k == wid) && quiet_owes q a k x y))

-- a capture and a result, whatever becomes of it: as before
abbrev pub CaptureOwes : Type 0
CaptureOwes = (desk : List Window) (were_opened : ℕ → Bool) (window : Window) (plan : List Planned) (first : ℕ) (a a' : AttachedSeen) (sent : List ℕ) (k x y : ℕ) → find_window desk window.wid ≡ Some window
    → Captures window plan first a a' → IsTold desk were_opened a sent → owes a' k x y ≡ owes a k x y

abbrev pub FileOwes : Type 0
FileOwes = (desk : List Window) (were_opened : ℕ → Bool) (wid number : ℕ) (capture : Captured) (now : ℕ) (a a' : AttachedSeen) (sent : List ℕ) (k x y : ℕ) → Files wid number capture now a a'
    → IsTold desk were_opened a sent → owes a' k x y ≡ owes a k x y

-- the first packet's last byte was taken: what was owed, but for the points in its relief that nothing else owes
abbrev pub front_relieves : List Queued → ℕ → ℕ → ℕ → Bool
front_relieves [] k x y = false
front_relieves (p ∷ packets) k x y = draws_in k p && has_point p.relief x y

abbrev pub owes_behind : Option SourceSeen → List Queued → ℕ → ℕ → Bool
owes_behind None packets x y = false
owes_behind (Some s) packets x y = source_owes s (drop 1 packets) x y

abbrev pub WholeWriteOwes : Type 0
WholeWriteOwes = (a : AttachedSeen) (k x y : ℕ) → owes (record a { out = record { packets = drop 1 a.out.packets; taken = 0 } }) k x y
    ≡ (if front_relieves a.out.packets k x y then owes_behind (find_source a.sources k) a.out.packets x y else owes a k x y)
