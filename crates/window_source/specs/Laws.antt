-- What the calls of a source come to in the model's window, whatever the desktop has, the client shows and waits.
use Rattle.std.specs.Prelude.{ℕ, ℤ, ◌≡◌, Option, Some, List, [], ◌∷◌, ◌++◌, map}
use Rattle.xp_base.specs.Points.{Rectangle, survives}
use Rattle.delivery_model.specs.Grids.{Grid}
use Rattle.delivery_model.specs.Window.{Packet, WindowResized, Window}
use Rattle.delivery_model.specs.Events.{Event, changed, damaged, unmapped, given_back, resized, desk_resized, with_relief, Planned, captured}
use Rattle.delivery_model.specs.Plans.{IsEvent}
use Rattle.delivery_model.specs.Kept.{IsKept}
use Rattle.delivery_model.specs.Owed.{owes}
use Rattle.delivery_model.specs.Changes.{owed_after}
use Rattle.window_source.specs.Source.{SourceSeen, window_of, source_of, after}
use Rattle.window_source.specs.Calls.{acknowledged_at}

-- an event of the source alone is the model's event of its window, with any pixels, client and packets
abbrev pub IsOfWindow : (Window → Window) → Type 0
IsOfWindow event = (s : SourceSeen) (numbers : List ℕ) (client : Option Grid) (packets : List Packet)
    → window_of (after event s) numbers client packets ≡ event (window_of s numbers client packets)

abbrev pub DamageIsOfWindow : Type 0
DamageIsOfWindow = (r : Rectangle) (now : ℕ) → IsOfWindow (damaged r now)

abbrev pub UnmapIsOfWindow : Type 0
UnmapIsOfWindow = (now : ℕ) → IsOfWindow (unmapped now)

abbrev pub GivingBackIsOfWindow : Type 0
GivingBackIsOfWindow = (now : ℕ) → IsOfWindow (given_back now)

abbrev pub AcknowledgementIsOfWindow : Type 0
AcknowledgementIsOfWindow = (sequence time : ℤ) (now : ℕ) → IsOfWindow (acknowledged_at sequence time now)

-- a capture of the window's pixels
abbrev pub CaptureIsOfWindow : Type 0
CaptureIsOfWindow = (plan : List Planned) (first : ℕ) (s : SourceSeen) (numbers : List ℕ) (client : Option Grid) (packets : List Packet)
    → window_of (source_of s.conn s.wid (captured plan first (window_of s numbers client packets))) numbers client packets
    ≡ captured plan first (window_of s numbers client packets)

-- a resize: the desktop's pixels and the waiting packets are the model's too
abbrev pub ResizeIsOfWindow : Type 0
ResizeIsOfWindow = (w h now : ℕ) (s : SourceSeen) (numbers : List ℕ) (client : Option Grid) (packets : List Packet)
    → let desk : Grid = desk_resized w h (record { wide = s.wide; high = s.high; numbers = numbers }) in
    window_of (after (resized w h now) s) desk.numbers client (map (with_relief w h (survives s.wide s.high w h)) packets ++ WindowResized w h ∷ [])
    ≡ resized w h now (window_of s numbers client packets)

-- where a source's window came by an event from a source's window, it has the form that all events keep, and what is owed changed
-- as the model states
pub record KeepsAndOwes (e : Event) (w w' : Window) : Type 0 where
  pub kept : IsKept w'
  pub owed : (x y : ℕ) → owes (Some w') x y ≡ owed_after e w x y

abbrev pub EventsKeepAndOwe : Type 0
EventsKeepAndOwe = (lossy_shows : ℕ → ℕ) (e : Event) (s s' : SourceSeen) (numbers numbers' : List ℕ) (client client' : Option Grid) (packets packets' : List Packet)
    → changed lossy_shows e (window_of s numbers client packets) ≡ Some (window_of s' numbers' client' packets')
    → IsEvent (Some (window_of s numbers client packets)) e → IsKept (window_of s numbers client packets)
    → KeepsAndOwes e (window_of s numbers client packets) (window_of s' numbers' client' packets')
