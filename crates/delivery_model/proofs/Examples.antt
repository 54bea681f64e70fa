-- Whole runs of small windows, computed: how many points are owed at each question.
use Rattle.std.proofs.Common.{◌≡◌, ℕ, ◌+◌, ◌-◌, ◌*◌, true, false, List, [], ◌∷◌, Option, Some, None, refl}
use Rattle.std.specs.Prelude.{◌^◌, replicate}
use Rattle.xp_base.specs.declared.coding.Coding.TheVariants as C
use Rattle.xp_base.specs.Points.{Rectangle}
use Rattle.xp_base.specs.Captures.{Captured}
use Rattle.delivery_model.specs.Grids.{each_point, has, Grid, number, number_in}
use Rattle.delivery_model.specs.Window.{Window}
use Rattle.delivery_model.specs.Events.{is_empty, Planned, Event, Start, Paint, Capture, File, Write, Acknowledge, MapWindow, UnmapWindow, Recall, Resize, capture_of, filing_of, Filing, Late, Filed, step, run}
use Rattle.delivery_model.specs.Refusals.{CaptureAnswer, Unmapped, Clean, Early, Congested, Heavy, Spent, Allowed, capture_answer, last_capture_answer}
use Rattle.delivery_model.specs.Owed.{owed_count}

-- a run with questions in it
data Line : Type 0 where
  Do : Event → Line
  Owed : Line

abbrev count_where_there : Option Window → ℕ
count_where_there None = 0
count_where_there (Some w) = owed_count w

abbrev replay : (ℕ → ℕ) → Option Window → List Line → List ℕ
replay lossy_shows o [] = []
replay lossy_shows o (Do e ∷ lines) = replay lossy_shows (step lossy_shows o e) lines
replay lossy_shows o (Owed ∷ lines) = count_where_there o ∷ replay lossy_shows o lines

-- a lossy draw shows the next number
abbrev next : ℕ → ℕ
next n = n + 1

abbrev rect : ℕ → ℕ → ℕ → ℕ → Rectangle
rect x y w h = record { x = x; y = y; w = w; h = h }

abbrev exact : Rectangle → Planned
exact r = record { rect = r; coding = C.Exact }

abbrev result : Rectangle → List ℕ → Captured
result r pixels = record { rect = r; coding = C.Exact; pixels = pixels }

abbrev black : ℕ → ℕ → Grid
black w h = record { wide = w; high = h; numbers = replicate (w * h) 0 }

-- two jobs whose results come back in the other order leave in the order of their captures
later_result_first : replay next None (Do (Start (black 4 1) 0) ∷ Do (Write true) ∷ Do (MapWindow) ∷ Do (Capture (exact (rect 0 0 4 1) ∷ []) 1) ∷ Do (File 1 (result (rect 0 0 4 1) (0 ∷ 0 ∷ 0 ∷ 0 ∷ [])) 500) ∷ Do (Write true) ∷ Do (Acknowledge 1 false 500) ∷ Do (Paint (rect 0 0 1 1) (16711680 ∷ 0 ∷ 0 ∷ 0 ∷ []) 1000) ∷ Do (Paint (rect 2 0 1 1) (16711680 ∷ 0 ∷ 65280 ∷ 0 ∷ []) 1000) ∷ Do (Capture (exact (rect 0 0 1 1) ∷ exact (rect 2 0 1 1) ∷ []) 2) ∷ Do (File 3 (result (rect 2 0 1 1) (65280 ∷ [])) 1500) ∷ Do (Write true) ∷ Do (File 2 (result (rect 0 0 1 1) (16711680 ∷ [])) 1500) ∷ Owed ∷ Do (Write true) ∷ Do (Write true) ∷ Owed ∷ []) ≡ 2 ∷ 0 ∷ []
unfolding each_point has number number_in is_empty
later_result_first = refl

-- an unmap cancels the job; its result is late; what it would have relieved is still owed
unmapped_while_encoding : replay next None (Do (Start (black 4 1) 0) ∷ Do (Write true) ∷ Do (MapWindow) ∷ Do (Capture (exact (rect 0 0 4 1) ∷ []) 1) ∷ Do (File 1 (result (rect 0 0 4 1) (0 ∷ 0 ∷ 0 ∷ 0 ∷ [])) 500) ∷ Do (Write true) ∷ Do (Acknowledge 1 false 500) ∷ Do (Paint (rect 0 0 2 1) (16711680 ∷ 16711680 ∷ 0 ∷ 0 ∷ []) 1000) ∷ Do (Capture (exact (rect 0 0 2 1) ∷ []) 2) ∷ Do (UnmapWindow 1500) ∷ Do (Paint (rect 3 0 1 1) (16711680 ∷ 16711680 ∷ 0 ∷ 65280 ∷ []) 1500) ∷ Do (MapWindow) ∷ Do (File 2 (result (rect 0 0 2 1) (16711680 ∷ 16711680 ∷ [])) 1500) ∷ Owed ∷ []) ≡ 3 ∷ []
unfolding each_point has number number_in is_empty
unmapped_while_encoding = refl

-- a point that is painted while its job is in hand is owed after the draw was written
painted_while_encoding : replay next None (Do (Start (black 1 1) 0) ∷ Do (Write true) ∷ Do (MapWindow) ∷ Do (Capture (exact (rect 0 0 1 1) ∷ []) 1) ∷ Do (File 1 (result (rect 0 0 1 1) (0 ∷ [])) 500) ∷ Do (Write true) ∷ Do (Acknowledge 1 false 500) ∷ Do (Paint (rect 0 0 1 1) (16711680 ∷ []) 1000) ∷ Do (Capture (exact (rect 0 0 1 1) ∷ []) 2) ∷ Do (Paint (rect 0 0 1 1) (255 ∷ []) 1500) ∷ Do (File 2 (result (rect 0 0 1 1) (16711680 ∷ [])) 1500) ∷ Do (Write true) ∷ Owed ∷ []) ≡ 1 ∷ []
unfolding each_point has number number_in is_empty
painted_while_encoding = refl

-- a resize cancels the job, and the whole new window is owed
resized_while_encoding : replay next None (Do (Start (black 4 4) 0) ∷ Do (Paint (rect 0 0 4 4) (16777215 ∷ 16777215 ∷ 16777215 ∷ 16777215 ∷ 16777215 ∷ 16777215 ∷ 16777215 ∷ 16777215 ∷ 16777215 ∷ 16777215 ∷ 16777215 ∷ 16777215 ∷ 16777215 ∷ 16777215 ∷ 16777215 ∷ 16777215 ∷ []) 0) ∷ Do (Write true) ∷ Do (MapWindow) ∷ Do (Capture (exact (rect 0 0 4 4) ∷ []) 1) ∷ Do (Resize 2 2 500) ∷ Do (File 1 (result (rect 0 0 4 4) (16777215 ∷ 16777215 ∷ 16777215 ∷ 16777215 ∷ 16777215 ∷ 16777215 ∷ 16777215 ∷ 16777215 ∷ 16777215 ∷ 16777215 ∷ 16777215 ∷ 16777215 ∷ 16777215 ∷ 16777215 ∷ 16777215 ∷ 16777215 ∷ [])) 500) ∷ Owed ∷ []) ≡ 4 ∷ []
unfolding each_point has number number_in is_empty
resized_while_encoding = refl

-- a job that covers more than it relieves owes what it relieves
one_rectangle_for_many : replay next None (Do (Start (black 6 1) 0) ∷ Do (Write true) ∷ Do (MapWindow) ∷ Do (Capture (exact (rect 0 0 6 1) ∷ []) 1) ∷ Do (File 1 (result (rect 0 0 6 1) (0 ∷ 0 ∷ 0 ∷ 0 ∷ 0 ∷ 0 ∷ [])) 500) ∷ Do (Write true) ∷ Do (Acknowledge 1 false 500) ∷ Do (Paint (rect 0 0 1 1) (255 ∷ 0 ∷ 0 ∷ 0 ∷ 0 ∷ 0 ∷ []) 1000) ∷ Do (Paint (rect 2 0 1 1) (255 ∷ 0 ∷ 255 ∷ 0 ∷ 0 ∷ 0 ∷ []) 1000) ∷ Do (Paint (rect 4 0 1 1) (255 ∷ 0 ∷ 255 ∷ 0 ∷ 255 ∷ 0 ∷ []) 1000) ∷ Owed ∷ Do (Capture (exact (rect 0 0 5 1) ∷ []) 2) ∷ Owed ∷ []) ≡ 3 ∷ 3 ∷ []
unfolding each_point has number number_in is_empty
one_rectangle_for_many = refl

-- a lossy draw leaves its rectangle owed until an exact one was written
lossy_then_exact : replay next None (Do (Start (black 2 2) 0) ∷ Do (Write true) ∷ Do (MapWindow) ∷ Do (Capture (record { rect = rect 0 0 2 2; coding = C.Lossy } ∷ []) 1) ∷ Do (File 1 (record { rect = rect 0 0 2 2; coding = C.Lossy; pixels = (0 ∷ 0 ∷ 0 ∷ 0 ∷ []) }) 1000) ∷ Do (Write true) ∷ Owed ∷ Do (Acknowledge 1 false 1000) ∷ Do (Capture (exact (rect 0 0 2 2) ∷ []) 2) ∷ Owed ∷ Do (File 2 (result (rect 0 0 2 2) (0 ∷ 0 ∷ 0 ∷ 0 ∷ [])) 1500) ∷ Do (Write true) ∷ Owed ∷ []) ≡ 4 ∷ 4 ∷ 0 ∷ []
unfolding each_point has number number_in is_empty
lossy_then_exact = refl

-- an exact draw leaves nothing owed
exact_at_once : replay next None (Do (Start (black 2 2) 0) ∷ Do (Write true) ∷ Do (MapWindow) ∷ Do (Capture (exact (rect 0 0 2 2) ∷ []) 1) ∷ Do (File 1 (result (rect 0 0 2 2) (0 ∷ 0 ∷ 0 ∷ 0 ∷ [])) 1000) ∷ Do (Write true) ∷ Owed ∷ []) ≡ 0 ∷ []
unfolding each_point has number number_in is_empty
exact_at_once = refl

-- an exact draw over a part of a waiting lossy one repairs that part
exact_over_lossy : replay next None (Do (Start (black 2 2) 0) ∷ Do (Write true) ∷ Do (MapWindow) ∷ Do (Capture (record { rect = rect 0 0 2 2; coding = C.Lossy } ∷ []) 1) ∷ Do (Paint (rect 0 0 1 1) (16777215 ∷ 0 ∷ 0 ∷ 0 ∷ []) 500) ∷ Owed ∷ Do (Capture (exact (rect 0 0 1 1) ∷ []) 2) ∷ Do (File 1 (record { rect = rect 0 0 2 2; coding = C.Lossy; pixels = (0 ∷ 0 ∷ 0 ∷ 0 ∷ []) }) 1000) ∷ Do (File 2 (result (rect 0 0 1 1) (16777215 ∷ [])) 1000) ∷ Do (Write true) ∷ Do (Write true) ∷ Owed ∷ Do (Capture (exact (rect 0 0 2 2) ∷ []) 3) ∷ Do (File 3 (result (rect 0 0 2 2) (16777215 ∷ 0 ∷ 0 ∷ 0 ∷ [])) 1500) ∷ Do (Write true) ∷ Owed ∷ []) ≡ 4 ∷ 3 ∷ 0 ∷ []
unfolding each_point has number number_in is_empty
exact_over_lossy = refl

-- a draw that was written in part counts for nothing, and an acknowledgement repairs nothing
written_in_part : replay next None (Do (Start (black 1 1) 0) ∷ Do (Write true) ∷ Do (MapWindow) ∷ Do (Capture (exact (rect 0 0 1 1) ∷ []) 1) ∷ Do (File 1 (result (rect 0 0 1 1) (0 ∷ [])) 500) ∷ Do (Write false) ∷ Owed ∷ Do (Acknowledge 1 false 500) ∷ Owed ∷ Do (Write true) ∷ Owed ∷ Do (Acknowledge 1 true 500) ∷ Owed ∷ []) ≡ 1 ∷ 1 ∷ 0 ∷ 0 ∷ []
unfolding each_point has number number_in is_empty
written_in_part = refl

-- a negative time owes the draw's rectangle once, and a second acknowledgement is a stray
client_paints_late : replay next None (Do (Start (black 1 1) 0) ∷ Do (Write true) ∷ Do (MapWindow) ∷ Do (Capture (exact (rect 0 0 1 1) ∷ []) 1) ∷ Do (File 1 (result (rect 0 0 1 1) (0 ∷ [])) 500) ∷ Do (Write true) ∷ Owed ∷ Do (Acknowledge 1 true 500) ∷ Owed ∷ Do (Acknowledge 1 true 500) ∷ Owed ∷ []) ≡ 0 ∷ 1 ∷ 1 ∷ []
unfolding each_point has number number_in is_empty
client_paints_late = refl

-- a resize that keeps the overlap owes the new points alone
grown_and_kept : replay next None (Do (Start (black 4 1) 0) ∷ Do (Paint (rect 0 0 4 1) (16777215 ∷ 16777215 ∷ 16777215 ∷ 16777215 ∷ []) 0) ∷ Do (Write true) ∷ Do (MapWindow) ∷ Do (Capture (exact (rect 0 0 4 1) ∷ []) 1) ∷ Do (File 1 (result (rect 0 0 4 1) (16777215 ∷ 16777215 ∷ 16777215 ∷ 16777215 ∷ [])) 500) ∷ Do (Write true) ∷ Owed ∷ Do (Resize 6 1 1000) ∷ Owed ∷ []) ≡ 0 ∷ 2 ∷ []
unfolding each_point has number number_in is_empty
grown_and_kept = refl

-- a draw that waits in front of two resizes repairs what survives both
shrunk_grown_and_kept : replay next None (Do (Start (black 4 1) 0) ∷ Do (Write true) ∷ Do (MapWindow) ∷ Do (Capture (exact (rect 0 0 4 1) ∷ []) 1) ∷ Do (File 1 (result (rect 0 0 4 1) (0 ∷ 0 ∷ 0 ∷ 0 ∷ [])) 500) ∷ Do (Write true) ∷ Do (Acknowledge 1 false 500) ∷ Do (Paint (rect 0 0 4 1) (255 ∷ 255 ∷ 255 ∷ 255 ∷ []) 1000) ∷ Do (Capture (exact (rect 0 0 4 1) ∷ []) 2) ∷ Do (File 2 (result (rect 0 0 4 1) (255 ∷ 255 ∷ 255 ∷ 255 ∷ [])) 1500) ∷ Do (Resize 2 1 1500) ∷ Owed ∷ Do (Resize 4 1 1500) ∷ Owed ∷ Do (Write true) ∷ Owed ∷ []) ≡ 2 ∷ 4 ∷ 2 ∷ []
unfolding each_point has number number_in is_empty
shrunk_grown_and_kept = refl

-- what a capture answers: before the map, at first, with the job in hand, and directly after damage
abbrev capture_where_there : ℕ → ℕ → ℕ → Option Window → CaptureAnswer
capture_where_there now weight first None = Unmapped
capture_where_there now weight first (Some w) = capture_answer now weight first w

abbrev announced : List Event
announced = Start (black 1 1) 0 ∷ Write true ∷ []

abbrev in_hand : List Event
in_hand = Start (black 1 1) 0 ∷ Write true ∷ MapWindow ∷ Capture (exact (rect 0 0 1 1) ∷ []) 1 ∷ []

before_map : capture_where_there 500 0 1 (run next None announced) ≡ Unmapped
unfolding each_point has number number_in is_empty
before_map = refl

at_first : capture_where_there 500 0 1 (run next None (Start (black 1 1) 0 ∷ Write true ∷ MapWindow ∷ [])) ≡ Allowed
unfolding each_point has number number_in is_empty
at_first = refl

with_job : capture_where_there 500 0 2 (run next None in_hand) ≡ Clean
unfolding each_point has number number_in is_empty
with_job = refl

after_damage : capture_where_there 500 0 2 (step next (run next None in_hand) (Paint (rect 0 0 1 1) (255 ∷ []) 500)) ≡ Early 520
unfolding each_point has number number_in is_empty
after_damage = refl

-- the moment at which the delay is over
when_due : capture_where_there 520 0 2 (step next (run next None in_hand) (Paint (rect 0 0 1 1) (255 ∷ []) 500)) ≡ Allowed
unfolding each_point has number number_in is_empty
when_due = refl

-- the limits of load, weight and number, in this order, and what is allowed just below them
abbrev loaded : ℕ → Option Window → Option Window
loaded n None = None
loaded n (Some w) = Some (record w { unacknowledged = replicate n (record { sequence = 1; rect = rect 0 0 1 1 }) })

abbrev mapped : Option Window
mapped = run next None (Start (black 1 1) 0 ∷ Write true ∷ MapWindow ∷ [])

too_much_load : capture_where_there 500 33554432 (2 ^ 62) (loaded 64 mapped) ≡ Congested 64
unfolding each_point has number number_in is_empty
too_much_load = refl

too_much_weight : capture_where_there 500 33554432 (2 ^ 62) (loaded 63 mapped) ≡ Heavy 33554432
unfolding each_point has number number_in is_empty
too_much_weight = refl

no_number_left : capture_where_there 500 33554431 (2 ^ 62) (loaded 63 mapped) ≡ Spent
unfolding each_point has number number_in is_empty
no_number_left = refl

just_below : capture_where_there 500 33554431 (2 ^ 62 - 1) (loaded 63 mapped) ≡ Allowed
unfolding each_point has number number_in is_empty
just_below = refl

-- in the last captures of a run the same window is not early, and nothing is too heavy
abbrev last_where_there : ℕ → Option Window → CaptureAnswer
last_where_there first None = Unmapped
last_where_there first (Some w) = last_capture_answer first w

last_after_damage : last_where_there 2 (step next (run next None in_hand) (Paint (rect 0 0 1 1) (255 ∷ []) 500)) ≡ Allowed
unfolding each_point has number number_in is_empty
last_after_damage = refl

last_without_number : last_where_there (2 ^ 62) (loaded 64 mapped) ≡ Spent
unfolding each_point has number number_in is_empty
last_without_number = refl

-- a cancelled job's result is late where captures number upwards, and would be filed where a number comes back
abbrev filing_there : Option Window → ℕ → Captured → Filing
filing_there None k capture = Late
filing_there (Some w) k capture = filing_of (capture_of w.jobs k) capture

abbrev captured_again : ℕ → List Event
captured_again first = Start (black 1 1) 0 ∷ Write true ∷ MapWindow ∷ Capture (exact (rect 0 0 1 1) ∷ []) 1 ∷ Recall 0 ∷ Capture (exact (rect 0 0 1 1) ∷ []) first ∷ []

cancelled_is_late : filing_there (run next None (captured_again 2)) 1 (result (rect 0 0 1 1) (0 ∷ [])) ≡ Late
unfolding each_point has number number_in is_empty
cancelled_is_late = refl

reused_is_filed : filing_there (run next None (captured_again 1)) 1 (result (rect 0 0 1 1) (0 ∷ [])) ≡ Filed
unfolding each_point has number number_in is_empty
reused_is_filed = refl
