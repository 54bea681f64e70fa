-- What happened to one window of one client, as a list of entries, the oldest first. The program keeps no log: it is a function
-- of what happens. This project's own.
use Rattle.std.specs.Prelude.{ℕ, ◌+◌, Bool, true, false, ◌||◌, Option, Some, None, List, [], ◌∷◌, ◌++◌, nat_eq, if◌then◌else◌}
use Rattle.xp_base.specs.declared.coding.Coding.{Coding}
use Rattle.xp_base.specs.Points.{Rectangle, clip, whole}
use Rattle.delivery_model.specs.Window.{Job, Packet, NewWindow, WindowResized, Draws, Window}
use Rattle.delivery_model.specs.Events.{Planned, with_result, capture_of, Filing, Late, Foreign, Filed, filing_of, rect_sent, Event, Start, Paint, Capture, File, Write, Acknowledge, MapWindow, UnmapWindow, Recall, Resize, BufferRefresh, Close, step}

pub data Entry : Type 0 where
  -- the client was attached, or the window was opened
  Fresh : Entry
  -- the window had this size and got another; what both share was kept
  Kept : ℕ → ℕ → Entry
  Damaged : Rectangle → Entry
  -- a job's number, and what is to be shown
  JobCaptured : ℕ → Rectangle → Coding → Entry
  -- the job's number, and the sequence number of its draw
  DrawQueued : ℕ → ℕ → Entry
  -- the last byte of this draw was taken
  DrawWritten : ℕ → Entry

-- a capture: a job for each rectangle, in the plan's order
abbrev pub captures : ℕ → List Planned → List Entry
captures k [] = []
captures k (p ∷ plan) = JobCaptured k p.rect p.coding ∷ captures (k + 1) plan

-- a filing: the jobs that leave the jobs in hand, with their sequence numbers
abbrev pub queues : ℕ → List Job → List Entry
queues sequence [] = []
queues sequence (j ∷ jobs) = if j.encoded then DrawQueued j.number sequence ∷ queues (sequence + 1) jobs else []

abbrev pub filings : Filing → ℕ → Window → List Entry
filings Late k w = []
filings Foreign k w = []
filings Filed k w = queues w.next_sequence (with_result w.jobs k)

-- the front packet is wholly written
abbrev pub writings : List Packet → List Entry
writings [] = []
writings (NewWindow w h ∷ packets) = []
writings (WindowResized w h ∷ packets) = []
writings (Draws d ∷ packets) = DrawWritten d.sequence ∷ []

-- damage of a rectangle that may leave the window: what of it is in the window, where that is not empty
abbrev pub clipped : Rectangle → List Entry
clipped r = if nat_eq r.w 0 || nat_eq r.h 0 then [] else Damaged r ∷ []

-- an acknowledgement that is counted, of a draw with this rectangle
abbrev pub acknowledgements : Option Rectangle → Bool → Window → List Entry
acknowledgements None negative w = []
acknowledgements (Some r) false w = []
acknowledgements (Some r) true w = clipped (clip w.desk.wide w.desk.high r)

-- what an event adds to the log of a window as it stands before the event
abbrev pub entries : Event → Window → List Entry
entries (Start desk now) w = []
entries (Paint r numbers now) w = Damaged r ∷ []
entries (Capture plan first) w = captures first plan
entries (File k capture now) w = filings (filing_of (capture_of w.jobs k) capture) k w
entries (Write true) w = writings w.packets
entries (Write false) w = []
entries (Acknowledge k negative now) w = acknowledgements (rect_sent w.unacknowledged k) negative w
entries MapWindow w = []
entries (UnmapWindow now) w = []
entries (Recall now) w = []
entries (Resize wide high now) w = Kept w.desk.wide w.desk.high ∷ []
entries (BufferRefresh now) w = Damaged (whole w.desk.wide w.desk.high) ∷ []
entries Close w = []

-- the log after an event; a window's start begins it
abbrev pub log_after : List Entry → Option Window → Event → List Entry
log_after log None (Start desk now) = Fresh ∷ []
log_after log None (Paint r numbers now) = log
log_after log None (Capture plan first) = log
log_after log None (File k capture now) = log
log_after log None (Write wholly) = log
log_after log None (Acknowledge k negative now) = log
log_after log None MapWindow = log
log_after log None (UnmapWindow now) = log
log_after log None (Recall now) = log
log_after log None (Resize wide high now) = log
log_after log None (BufferRefresh now) = log
log_after log None Close = log
log_after log (Some w) e = log ++ entries e w

-- the log after several events
abbrev pub log_of : (ℕ → ℕ) → List Entry → Option Window → List Event → List Entry
log_of lossy_shows log o [] = log
log_of lossy_shows log o (e ∷ events) = log_of lossy_shows (log_after log o e) (step lossy_shows o e) events
