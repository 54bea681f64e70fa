-- What happens to one window of one client. The rules are this project's own; each is stated where it stands.
use Rattle.std.specs.Prelude.{ℕ, ◌+◌, ◌-◌, ◌/◌, ◌*◌, min, max, Bool, true, false, not, ◌&&◌, ◌||◌, Option, Some, None, List, [], ◌∷◌, ◌++◌, map, length, slice_index, nat_eq, nat_le, bytes_eq, if◌then◌else◌}
use Rattle.std.specs.List.{list_any}
use Rattle.xp_base.specs.declared.coding.Coding.{Coding}
use Rattle.xp_base.specs.declared.coding.Coding.TheVariants as C
use Rattle.xp_base.specs.Points.{Rectangle, is_in, is_within, survives, whole}
use Rattle.xp_base.specs.Captures.{Captured}
use Rattle.xp_base.specs.Grid.{place_of}
use Rattle.delivery_model.specs.Grids.{Points, points, has, Grid, grid, number, cut}
use Rattle.delivery_model.specs.Window.{Job, Packet, NewWindow, WindowResized, Draws, Sent, Window}
use Rattle.delivery_model.specs.Client.{applied}

-- no point is in the set
unfoldable pub is_empty : Points → Bool
is_empty set = not (list_any (λ m. m) set.marks)

-- the points of the window at which f says so
abbrev pub points_of : Window → (ℕ → ℕ → Bool) → Points
points_of w f = points w.desk.wide w.desk.high f

-- some job in hand relieves the point
abbrev pub jobs_relieve : List Job → ℕ → ℕ → Bool
jobs_relieve jobs x y = list_any (λ (j : Job). has j.relief x y) jobs

-- attach and open: the window is announced, all of it is pending since now, the delay is 20 and the first sequence number 1
abbrev pub started : Grid → ℕ → Window
started desk now = record {
  desk = desk;
  client = None;
  packets = NewWindow desk.wide desk.high ∷ [];
  jobs = [];
  pending = points desk.wide desk.high (λ x y. true);
  pending_since = now;
  lossy = points desk.wide desk.high (λ x y. false);
  lossy_since = 0;
  unacknowledged = [];
  next_sequence = 1;
  mapped = false;
  delay = 20;
}

-- points become pending: since now, where nothing was pending and something is
abbrev pub put_pending : Points → ℕ → Window → Window
put_pending set now w = record w { pending = set; pending_since = if is_empty w.pending && not (is_empty set) then now else w.pending_since }

-- damage: the rectangle's part of the window becomes pending
abbrev pub damaged : Rectangle → ℕ → Window → Window
damaged r now w = put_pending (points_of w (λ x y. has w.pending x y || is_in r x y)) now w

-- paint: within the rectangle the desktop has the new numbers, which are given for the whole window
abbrev pub painted : Rectangle → List ℕ → Grid → Grid
painted r numbers desk = grid desk.wide desk.high (λ x y. if is_in r x y then slice_index numbers (place_of desk.wide x y) else number desk x y)

-- the rectangles that a capture's plan names, each with its coding
pub record Planned : Type 0 where
  pub rect : Rectangle
  pub coding : Coding

-- a capture takes the pending points, or, where there are none, the lossy ones: a refresh
abbrev pub region_taken : Window → Points
region_taken w = if is_empty w.pending then w.lossy else w.pending

-- a job has the window's numbers of now, and relieves its rectangle's part of the region
abbrev pub job_of : Grid → Points → ℕ → Planned → Job
job_of desk region k p = record {
  number = k;
  capture = record { rect = p.rect; coding = p.coding; pixels = cut desk p.rect };
  relief = points desk.wide desk.high (λ x y. is_in p.rect x y && has region x y);
  encoded = false;
}

abbrev pub jobs_of : Grid → Points → ℕ → List Planned → List Job
jobs_of desk region k [] = []
jobs_of desk region k (p ∷ plan) = job_of desk region k p ∷ jobs_of desk region (k + 1) plan

-- the load: jobs in hand, and draws that were queued and are not acknowledged
abbrev pub load : Window → ℕ
load w = length w.jobs + length w.unacknowledged

-- a capture, with its first job's number: nothing is pending then; the lossy points stay; from a load of 32 the delay doubles, up to 500
abbrev pub captured : List Planned → ℕ → Window → Window
captured plan first w = record w {
  jobs = w.jobs ++ jobs_of w.desk (region_taken w) first plan;
  pending = points_of w (λ x y. false);
  delay = if nat_le 32 (load w) then min 500 (2 * w.delay) else w.delay;
}

-- an exact draw also relieves the lossy points in its rectangle, which stop being lossy; a lossy one makes its rectangle lossy since now
abbrev pub relief_queued : Window → Rectangle → Points → Coding → Points
relief_queued w rect relief C.Exact = points_of w (λ x y. has relief x y || (has w.lossy x y && is_in rect x y))
relief_queued w rect relief C.Lossy = relief

abbrev pub lossy_queued : Window → Rectangle → Coding → Points
lossy_queued w rect C.Exact = points_of w (λ x y. has w.lossy x y && not (is_in rect x y))
lossy_queued w rect C.Lossy = points_of w (λ x y. has w.lossy x y || is_in rect x y)

abbrev pub lossy_since_queued : ℕ → Window → Coding → ℕ
lossy_since_queued now w C.Exact = w.lossy_since
lossy_since_queued now w C.Lossy = now

-- the job's draw is queued with the next sequence number
abbrev pub queued : ℕ → Job → Window → Window
queued now j w = record w {
  packets = w.packets ++ Draws (record {
    sequence = w.next_sequence;
    capture = j.capture;
    relief = relief_queued w j.capture.rect j.relief j.capture.coding;
  }) ∷ [];
  lossy = lossy_queued w j.capture.rect j.capture.coding;
  lossy_since = lossy_since_queued now w j.capture.coding;
  unacknowledged = w.unacknowledged ++ record { sequence = w.next_sequence; rect = j.capture.rect } ∷ [];
  next_sequence = w.next_sequence + 1;
}

-- the jobs at the front whose encodings came back leave in the order of their captures
abbrev pub queue_ready : ℕ → List Job → Window → Window
queue_ready now [] w = record w { jobs = [] }
queue_ready now (j ∷ jobs) w = if j.encoded then queue_ready now jobs (queued now j w) else record w { jobs = j ∷ jobs }

-- how many jobs at the front have their results
abbrev pub ready_count : List Job → ℕ
ready_count [] = 0
ready_count (j ∷ jobs) = if j.encoded then ready_count jobs + 1 else 0

-- what the job in hand with this number captured
abbrev pub capture_of : List Job → ℕ → Option Captured
capture_of [] k = None
capture_of (j ∷ jobs) k = if nat_eq j.number k then Some j.capture else capture_of jobs k

-- the job's encoding came back
abbrev pub with_result : List Job → ℕ → List Job
with_result [] k = []
with_result (j ∷ jobs) k = if nat_eq j.number k then record j { encoded = true } ∷ jobs else j ∷ with_result jobs k

abbrev pub same_coding : Coding → Coding → Bool
same_coding C.Exact C.Exact = true
same_coding C.Exact C.Lossy = false
same_coding C.Lossy C.Exact = false
same_coding C.Lossy C.Lossy = true

abbrev pub same_rectangle : Rectangle → Rectangle → Bool
same_rectangle r s = (nat_eq r.x s.x && nat_eq r.y s.y) && (nat_eq r.w s.w && nat_eq r.h s.h)

-- captures are compared by value
abbrev pub same_capture : Captured → Captured → Bool
same_capture c d = same_rectangle c.rect d.rect && (same_coding c.coding d.coding && bytes_eq c.pixels d.pixels)

-- a result is late where no job in hand has its number, foreign where that job has another capture, and filed else
pub data Filing : Type 0 where
  Late : Filing
  Foreign : Filing
  Filed : Filing

abbrev pub filing_of : Option Captured → Captured → Filing
filing_of None capture = Late
filing_of (Some c) capture = if same_capture c capture then Filed else Foreign

-- a late or foreign result changes nothing
abbrev pub filed_as : Filing → ℕ → ℕ → Window → Window
filed_as Late k now w = w
filed_as Foreign k now w = w
filed_as Filed k now w = queue_ready now (with_result w.jobs k) w

abbrev pub filed : ℕ → Captured → ℕ → Window → Window
filed k capture now w = filed_as (filing_of (capture_of w.jobs k) capture) k now w

-- the front packet was wholly written
abbrev pub written_front : (ℕ → ℕ) → List Packet → Window → Window
written_front lossy_shows [] w = w
written_front lossy_shows (p ∷ packets) w = record w { client = applied lossy_shows w.client p; packets = packets }

-- a packet that was written in part counts for nothing
abbrev pub written : (ℕ → ℕ) → Bool → Window → Window
written lossy_shows wholly w = if wholly then written_front lossy_shows w.packets w else w

-- the rectangle of the unacknowledged draw with this number, and the others
abbrev pub rect_sent : List Sent → ℕ → Option Rectangle
rect_sent [] k = None
rect_sent (s ∷ sent) k = if nat_eq s.sequence k then Some s.rect else rect_sent sent k

abbrev pub without_sent : List Sent → ℕ → List Sent
without_sent [] k = []
without_sent (s ∷ sent) k = if nat_eq s.sequence k then sent else s ∷ without_sent sent k

-- an acknowledgement is counted; at a load of 8 or less after it the delay falls by a quarter, down to 10
abbrev pub counted : List Sent → Window → Window
counted left w = record w {
  unacknowledged = left;
  delay = if nat_le (length w.jobs + length left) 8 then max 10 (w.delay - w.delay / 4) else w.delay;
}

-- a number that no unacknowledged draw has is a stray and changes nothing; a negative time damages the draw's rectangle
abbrev pub acknowledged_as : Option Rectangle → ℕ → Bool → ℕ → Window → Window
acknowledged_as None k negative now w = w
acknowledged_as (Some r) k negative now w =
    if negative then damaged r now (counted (without_sent w.unacknowledged k) w) else counted (without_sent w.unacknowledged k) w

abbrev pub acknowledged : ℕ → Bool → ℕ → Window → Window
acknowledged k negative now w = acknowledged_as (rect_sent w.unacknowledged k) k negative now w

-- all jobs in hand are cancelled, and what they relieve is pending
abbrev pub given_back : ℕ → Window → Window
given_back now w = put_pending (points_of w (λ x y. has w.pending x y || jobs_relieve w.jobs x y)) now (record w { jobs = [] })

-- an unmap gives back; at an unmapped window it changes nothing
abbrev pub unmapped : ℕ → Window → Window
unmapped now w = if w.mapped then record (given_back now w) { mapped = false } else w

-- of a waiting draw's relief only these points are left
abbrev pub with_relief : ℕ → ℕ → (ℕ → ℕ → Bool) → Packet → Packet
with_relief w h kept (NewWindow wide high) = NewWindow wide high
with_relief w h kept (WindowResized wide high) = WindowResized wide high
with_relief w h kept (Draws d) = Draws (record d { relief = points w h (λ x y. has d.relief x y && kept x y) })

-- the desktop keeps the numbers that both sizes share, and new ones are 0
abbrev pub desk_resized : ℕ → ℕ → Grid → Grid
desk_resized w h desk = grid w h (λ x y. if is_within desk.wide desk.high x y then number desk x y else 0)

-- a resize cancels all jobs in hand; the new points are pending, and those that were pending or relieved by a job;
-- lossy points and reliefs keep what survives
abbrev pub resized_from : ℕ → ℕ → ℕ → ℕ → ℕ → Window → Window
resized_from w0 h0 w h now old =
    let kept : ℕ → ℕ → Bool = survives w0 h0 w h in
    put_pending (points w h (λ x y. not (kept x y) || (has old.pending x y || jobs_relieve old.jobs x y))) now (record old {
      desk = desk_resized w h old.desk;
      packets = map (with_relief w h kept) old.packets ++ WindowResized w h ∷ [];
      jobs = [];
      lossy = points w h (λ x y. has old.lossy x y && kept x y);
    })

abbrev pub resized : ℕ → ℕ → ℕ → Window → Window
resized w h now old = resized_from old.desk.wide old.desk.high w h now old

pub data Event : Type 0 where
  -- attach or open, with the desktop's window
  Start : Grid → ℕ → Event
  -- fill, copy and noise: the rectangle, and the window's numbers after it
  Paint : Rectangle → List ℕ → ℕ → Event
  Capture : List Planned → ℕ → Event
  -- a result: its number and its capture
  File : ℕ → Captured → ℕ → Event
  -- bytes of the front packet were taken: all that were left, or not
  Write : Bool → Event
  -- the number, and whether the time is negative
  Acknowledge : ℕ → Bool → ℕ → Event
  MapWindow : Event
  UnmapWindow : ℕ → Event
  -- the jobs in hand are given back, and the window stays mapped
  Recall : ℕ → Event
  Resize : ℕ → ℕ → ℕ → Event
  BufferRefresh : ℕ → Event
  Close : Event

-- the window after an event; none where it was closed. `lossy_shows` is the number that a lossy draw shows for a number.
abbrev pub changed : (ℕ → ℕ) → Event → Window → Option Window
changed lossy_shows (Start desk now) w = Some w
changed lossy_shows (Paint r numbers now) w = Some (damaged r now (record w { desk = painted r numbers w.desk }))
changed lossy_shows (Capture plan first) w = Some (captured plan first w)
changed lossy_shows (File k capture now) w = Some (filed k capture now w)
changed lossy_shows (Write wholly) w = Some (written lossy_shows wholly w)
changed lossy_shows (Acknowledge k negative now) w = Some (acknowledged k negative now w)
changed lossy_shows MapWindow w = Some (record w { mapped = true })
changed lossy_shows (UnmapWindow now) w = Some (unmapped now w)
changed lossy_shows (Recall now) w = Some (given_back now w)
changed lossy_shows (Resize w h now) old = Some (resized w h now old)
changed lossy_shows (BufferRefresh now) w = Some (damaged (whole w.desk.wide w.desk.high) now w)
changed lossy_shows Close w = None

-- a window that is not there can be started, and nothing else happens to it; its number is never used again
abbrev pub step : (ℕ → ℕ) → Option Window → Event → Option Window
step lossy_shows None (Start desk now) = Some (started desk now)
step lossy_shows None (Paint r numbers now) = None
step lossy_shows None (Capture plan first) = None
step lossy_shows None (File k capture now) = None
step lossy_shows None (Write wholly) = None
step lossy_shows None (Acknowledge k negative now) = None
step lossy_shows None MapWindow = None
step lossy_shows None (UnmapWindow now) = None
step lossy_shows None (Recall now) = None
step lossy_shows None (Resize w h now) = None
step lossy_shows None (BufferRefresh now) = None
step lossy_shows None Close = None
step lossy_shows (Some w) e = changed lossy_shows e w

abbrev pub run : (ℕ → ℕ) → Option Window → List Event → Option Window
run lossy_shows o [] = o
run lossy_shows o (e ∷ events) = run lossy_shows (step lossy_shows o e) events
