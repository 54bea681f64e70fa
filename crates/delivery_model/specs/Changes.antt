-- How each event changes what is owed. This project's own.
use Rattle.std.specs.Prelude.{ℕ, Bool, true, false, not, ◌&&◌, ◌||◌, Option, Some, None, List, [], ◌∷◌}
use Rattle.xp_base.specs.Points.{Rectangle, is_in, is_within}
use Rattle.delivery_model.specs.Window.{Packet, Window}
use Rattle.delivery_model.specs.Events.{Event, Start, Paint, Capture, File, Write, Acknowledge, MapWindow, UnmapWindow, Recall, Resize, BufferRefresh, Close, rect_sent}
use Rattle.delivery_model.specs.Owed.{packet_relieves, is_owed, owes}

-- a rectangle is owed too
abbrev pub owed_with : Rectangle → Window → ℕ → ℕ → Bool
owed_with r w x y = owes (Some w) x y || (is_within w.desk.wide w.desk.high x y && is_in r x y)

-- once the front packet is written the points that stood in its relief and in nothing else are no longer owed
abbrev pub owed_without_front : List Packet → Window → ℕ → ℕ → Bool
owed_without_front [] w x y = owes (Some w) x y
owed_without_front (p ∷ packets) w x y = owes (Some w) x y && not (packet_relieves p x y && not (is_owed (record w { packets = packets }) x y))

-- a counted acknowledgement with a negative time owes its draw's rectangle
abbrev pub owed_acknowledged : Option Rectangle → Bool → Window → ℕ → ℕ → Bool
owed_acknowledged None negative w x y = owes (Some w) x y
owed_acknowledged (Some r) false w x y = owes (Some w) x y
owed_acknowledged (Some r) true w x y = owed_with r w x y

-- what is owed after an event
abbrev pub owed_after : Event → Window → ℕ → ℕ → Bool
owed_after (Start desk now) w x y = owes (Some w) x y
owed_after (Paint r numbers now) w x y = owed_with r w x y
owed_after (Capture plan first) w x y = owes (Some w) x y
owed_after (File k capture now) w x y = owes (Some w) x y
owed_after (Write true) w x y = owed_without_front w.packets w x y
owed_after (Write false) w x y = owes (Some w) x y
owed_after (Acknowledge k negative now) w x y = owed_acknowledged (rect_sent w.unacknowledged k) negative w x y
owed_after MapWindow w x y = owes (Some w) x y
owed_after (UnmapWindow now) w x y = owes (Some w) x y
owed_after (Recall now) w x y = owes (Some w) x y
-- the points of the new window that were owed, and those that are new
owed_after (Resize wide high now) w x y = is_within wide high x y && (owes (Some w) x y || not (is_within w.desk.wide w.desk.high x y))
owed_after (BufferRefresh now) w x y = is_within w.desk.wide w.desk.high x y
owed_after Close w x y = false
