-- When a window may be captured. This project's own.
use Rattle.std.specs.Prelude.{ℕ, ◌+◌, ◌^◌, Bool, true, false, not, ◌&&◌, ◌||◌, List, [], ◌∷◌, length, nat_le, nat_lt, if◌then◌else◌}
use Rattle.delivery_model.specs.Window.{Packet, NewWindow, WindowResized, Draws, Window}
use Rattle.delivery_model.specs.Events.{Planned, is_empty, load, captured}

pub data CaptureAnswer : Type 0 where
  Unmapped : CaptureAnswer
  Clean : CaptureAnswer
  -- the moment from which on it may be captured
  Early : ℕ → CaptureAnswer
  Congested : ℕ → CaptureAnswer
  Heavy : ℕ → CaptureAnswer
  Spent : CaptureAnswer
  Allowed : CaptureAnswer

-- a draw of the window is not wholly written
abbrev pub is_busy : List Packet → Bool
is_busy [] = false
is_busy (NewWindow w h ∷ packets) = is_busy packets
is_busy (WindowResized w h ∷ packets) = is_busy packets
is_busy (Draws d ∷ packets) = true

-- nothing is pending, and either nothing is lossy, or a job is in hand, or a draw waits
abbrev pub is_clean : Window → Bool
is_clean w = is_empty w.pending && (is_empty w.lossy || (nat_lt 0 (length w.jobs) || is_busy w.packets))

-- damage waits for the delay, and a refresh for 250 milliseconds
abbrev pub earliest : Window → ℕ
earliest w = if is_empty w.pending then w.lossy_since + 250 else w.pending_since + w.delay

-- the first of these that stands; `weight` is that of the client's connection, `first` the next job's number
abbrev pub capture_answer : ℕ → ℕ → ℕ → Window → CaptureAnswer
capture_answer now weight first w =
    if not w.mapped then Unmapped
    else if is_clean w then Clean
    else if nat_lt now (earliest w) then Early (earliest w)
    else if nat_le 64 (load w) then Congested (load w)
    else if nat_le 33_554_432 weight then Heavy weight
    else if nat_le (2 ^ 62) first then Spent
    else Allowed

-- in the last captures of a run damage does not wait, and neither load nor weight refuses
abbrev pub last_capture_answer : ℕ → Window → CaptureAnswer
last_capture_answer first w =
    if not w.mapped then Unmapped
    else if is_clean w then Clean
    else if nat_le (2 ^ 62) first then Spent
    else Allowed

abbrev pub is_allowed : CaptureAnswer → Bool
is_allowed Unmapped = false
is_allowed Clean = false
is_allowed (Early t) = false
is_allowed (Congested n) = false
is_allowed (Heavy n) = false
is_allowed Spent = false
is_allowed Allowed = true

-- a capture that is refused changes nothing
abbrev pub captured_where : Bool → List Planned → ℕ → Window → Window
captured_where true plan first w = captured plan first w
captured_where false plan first w = w
