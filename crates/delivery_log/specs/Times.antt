-- Moments, in milliseconds of a clock that does not go back.
use Rattle.std.specs.Prelude.{ℕ, ◌≤◌, Option, Some, None}
use Rattle.delivery_model.specs.Window.{Window}
use Rattle.delivery_model.specs.Events.{Event, Start, Paint, Capture, File, Write, Acknowledge, MapWindow, UnmapWindow, Recall, Resize, BufferRefresh, Close}

-- a window's moments are not after the clock, and its delay is from 10 to 500
pub record IsTimed (clock : ℕ) (w : Window) : Type 0 where
  pub pending : w.pending_since ≤ clock
  pub lossy : w.lossy_since ≤ clock
  pub least : 10 ≤ w.delay
  pub greatest : w.delay ≤ 500

abbrev pub TimedWhereThere : ℕ → Option Window → Type 0
TimedWhereThere clock None = Unit {0}
TimedWhereThere clock (Some w) = IsTimed clock w

-- the event's moment is not after the clock
abbrev pub IsBy : ℕ → Event → Type 0
IsBy clock (Start desk now) = now ≤ clock
IsBy clock (Paint r numbers now) = now ≤ clock
IsBy clock (Capture plan first) = Unit {0}
IsBy clock (File k capture now) = now ≤ clock
IsBy clock (Write wholly) = Unit {0}
IsBy clock (Acknowledge k negative now) = now ≤ clock
IsBy clock MapWindow = Unit {0}
IsBy clock (UnmapWindow now) = now ≤ clock
IsBy clock (Recall now) = now ≤ clock
IsBy clock (Resize wide high now) = now ≤ clock
IsBy clock (BufferRefresh now) = now ≤ clock
IsBy clock Close = Unit {0}
