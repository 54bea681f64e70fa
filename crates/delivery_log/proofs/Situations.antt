-- Runs of small windows with questions in them, and what is asked: the examples and the near but wrong statements compute these.
use Rattle.std.proofs.Common.{ℕ, ◌+◌, ◌*◌, Bool, true, false, not, ◌&&◌, ◌||◌, List, [], ◌∷◌, ◌++◌, Option, Some, None, map, length}
use Rattle.std.specs.Prelude.{replicate, nat_eq, nat_le, if◌then◌else◌}
use Rattle.std.specs.List.{list_any, count_by}
use Rattle.xp_base.specs.declared.coding.Coding.TheVariants as C
use Rattle.xp_base.specs.Points.{Rectangle}
use Rattle.xp_base.specs.Captures.{Captured}
use Rattle.delivery_model.specs.Grids.{each_point, Grid}
use Rattle.delivery_model.specs.Window.{Job, Draw, Sent, Window}
use Rattle.delivery_model.specs.Events.{Planned, same_coding, same_rectangle, Event, Start, Paint, Capture, File, Write, Acknowledge, MapWindow, UnmapWindow, Resize, step}
use Rattle.delivery_model.specs.Invariant.{draws_of}
use Rattle.delivery_model.specs.Numbers.{next_after}
use Rattle.delivery_model.specs.Owed.{owed_count}
use Rattle.delivery_log.specs.Log.{Entry, log_after}
use Rattle.delivery_log.specs.Stale.{is_capture, is_stale, is_stale_queued, queued_draws, written_draws}
use Rattle.delivery_log.specs.Traces.{Trace, Hand, Seen, seen_at, any_repair, any_lossy, any_trace_relieves, any_hand_relieves, any_before, any_after_relieves, any_after_covers, is_repaired}
use Rattle.delivery_log.specs.Agreement.{Recorded, recorded, captured_jobs, queued_jobs, are_later}
use Rattle.delivery_log.specs.Rest.{rest}

-- a run with questions in it
pub data Line : Type 0 where
  Do : Event → Line
  Ask : Line

abbrev pub count_points : Grid → (ℕ → ℕ → Bool) → ℕ
count_points g test = count_by (λ b. b) (each_point g.wide g.high test)

-- how many points are owed, stale, and stale once the waiting draws are written; and the distance from rest
abbrev pub asked : List Entry → Option Window → List ℕ
asked log None = []
asked log (Some w) = owed_count w ∷ count_points w.desk (is_stale w.desk log) ∷ count_points w.desk (is_stale_queued w.desk log) ∷ rest w ∷ []

abbrev pub answers : (ℕ → ℕ) → List Entry → Option Window → List Line → List (List ℕ)
answers lossy_shows log o [] = []
answers lossy_shows log o (Do e ∷ lines) = answers lossy_shows (log_after log o e) (step lossy_shows o e) lines
answers lossy_shows log o (Ask ∷ lines) = asked log o ∷ answers lossy_shows log o lines

-- the log at the end
abbrev pub logged : (ℕ → ℕ) → List Entry → Option Window → List Line → List Entry
logged lossy_shows log o [] = log
logged lossy_shows log o (Do e ∷ lines) = logged lossy_shows (log_after log o e) (step lossy_shows o e) lines
logged lossy_shows log o (Ask ∷ lines) = logged lossy_shows log o lines

-- the parts of the agreement, and the numbering, as tests. Numbers rise:
abbrev pub rises : ℕ → ℕ → List ℕ → Bool
rises low next [] = nat_le low next
rises low next (k ∷ ks) = nat_le low k && rises (k + 1) next ks

abbrev pub same_bool : Bool → Bool → Bool
same_bool true b = b
same_bool false b = not b

abbrev pub same_numbers : List ℕ → List ℕ → Bool
same_numbers [] [] = true
same_numbers [] (k ∷ ks) = false
same_numbers (k ∷ ks) [] = false
same_numbers (k ∷ ks) (j ∷ js) = nat_eq k j && same_numbers ks js

abbrev pub same_records : List Recorded → List Recorded → Bool
same_records [] [] = true
same_records [] (d ∷ ds) = false
same_records (c ∷ cs) [] = false
same_records (c ∷ cs) (d ∷ ds) = (nat_eq c.number d.number && (same_rectangle c.rect d.rect && same_coding c.coding d.coding)) && same_records cs ds

abbrev pub ends_with : List Recorded → List Recorded → Bool
ends_with [] ds = same_records [] ds
ends_with (c ∷ cs) ds = same_records (c ∷ cs) ds || ends_with cs ds

abbrev pub all_captured : List Entry → List ℕ → Bool
all_captured log [] = true
all_captured log (k ∷ ks) = list_any (is_capture k) log && all_captured log ks

-- part 1, part 2, and what comes later in both
abbrev pub jobs_agree : ℕ → List Entry → Window → Bool
jobs_agree next log w = (rises 0 next (map (λ (c : Recorded). c.number) (captured_jobs log)) && ends_with (captured_jobs log) (map recorded w.jobs))
    && (rises 0 next (queued_jobs log ++ map (λ (j : Job). j.number) w.jobs) && all_captured log (queued_jobs log))

abbrev pub draws_agree : List Entry → Window → Bool
draws_agree log w = same_numbers (queued_draws log) (written_draws log ++ map (λ (d : Draw). d.sequence) (draws_of w.packets)) && rises 0 w.next_sequence (queued_draws log)

-- parts 3 to 6 at a point
abbrev pub queued_there : Seen → Bool
queued_there p = same_bool (is_repaired (p.written ++ p.waiting)) (not ((p.pending || any_hand_relieves p.hand) || p.lossy))

abbrev pub first_relieves : Bool → List Trace → Bool
first_relieves true ts = not (any_trace_relieves ts)
first_relieves false [] = true
first_relieves false (t ∷ ts) = if t.repair then t.relieves && not (any_trace_relieves ts) else first_relieves false ts

abbrev pub none_lossy_behind : List Trace → Bool
none_lossy_behind [] = true
none_lossy_behind (t ∷ ts) = not (t.repair && any_lossy ts) && none_lossy_behind ts

abbrev pub none_relieves_behind : List Hand → Bool
none_relieves_behind [] = true
none_relieves_behind (h ∷ hs) = not ((h.after && h.covers) && any_hand_relieves hs) && none_relieves_behind hs

abbrev pub none_before_behind : List Hand → Bool
none_before_behind [] = true
none_before_behind (h ∷ hs) = not (h.after && any_before hs) && none_before_behind hs

abbrev pub hand_there : Seen → Bool
hand_there p = ((not (any_before p.hand) || (p.pending || any_after_relieves p.hand)) && not (p.pending && any_after_covers p.hand)) && (none_relieves_behind p.hand && none_before_behind p.hand)

abbrev pub is_numbered : ℕ → Window → Bool
is_numbered next w = (rises 0 next (map (λ (j : Job). j.number) w.jobs) && rises 0 w.next_sequence (map (λ (d : Draw). d.sequence) (draws_of w.packets)))
    && (rises 0 w.next_sequence (map (λ (s : Sent). s.sequence) w.unacknowledged) && nat_le (w.next_sequence + length w.jobs) next)

abbrev pub one : Bool → ℕ
one b = if b then 1 else 0

-- whether parts 1 and 2 stand, what comes later in both, and the numbering; at how many points parts 3 to 6 do
abbrev pub checked : ℕ → List Entry → Option Window → List ℕ
checked next log None = []
checked next log (Some w) = one (jobs_agree next log w) ∷ one (draws_agree log w) ∷ one (are_later [] log) ∷ one (is_numbered next w)
    ∷ count_points w.desk (λ x y. queued_there (seen_at x y log w)) ∷ count_points w.desk (λ x y. first_relieves (any_repair (seen_at x y log w).written) (seen_at x y log w).waiting)
    ∷ count_points w.desk (λ x y. none_lossy_behind ((seen_at x y log w).written ++ (seen_at x y log w).waiting)) ∷ count_points w.desk (λ x y. hand_there (seen_at x y log w)) ∷ []

-- at each question, where the next job has this number at first
abbrev pub checks : (ℕ → ℕ) → ℕ → List Entry → Option Window → List Line → List (List ℕ)
checks lossy_shows next log o [] = []
checks lossy_shows next log o (Do e ∷ lines) = checks lossy_shows (next_after next e) (log_after log o e) (step lossy_shows o e) lines
checks lossy_shows next log o (Ask ∷ lines) = checked next log o ∷ checks lossy_shows next log o lines

-- all of these stand, in a window of n points
abbrev pub all_stand : ℕ → List ℕ
all_stand n = 1 ∷ 1 ∷ 1 ∷ 1 ∷ n ∷ n ∷ n ∷ n ∷ []

-- a lossy draw shows the next number
abbrev pub next_number : ℕ → ℕ
next_number n = n + 1

abbrev pub rect : ℕ → ℕ → ℕ → ℕ → Rectangle
rect x y w h = record { x = x; y = y; w = w; h = h }

abbrev pub exact : Rectangle → Planned
exact r = record { rect = r; coding = C.Exact }

abbrev pub coarse : Rectangle → Planned
coarse r = record { rect = r; coding = C.Lossy }

abbrev pub result : Rectangle → List ℕ → Captured
result r pixels = record { rect = r; coding = C.Exact; pixels = pixels }

abbrev pub coarsely : Rectangle → List ℕ → Captured
coarsely r pixels = record { rect = r; coding = C.Lossy; pixels = pixels }

abbrev pub black : ℕ → ℕ → Grid
black w h = record { wide = w; high = h; numbers = replicate (w * h) 0 }

-- a black window of four points in a row that the client shows
abbrev pub shown_row : List Line → List Line
shown_row more = Do (Start (black 4 1) 0) ∷ Do (Write true) ∷ Do MapWindow ∷ Do (Capture (exact (rect 0 0 4 1) ∷ []) 1) ∷ Do (File 1 (result (rect 0 0 4 1) (0 ∷ 0 ∷ 0 ∷ 0 ∷ [])) 500)
    ∷ Do (Write true) ∷ Do (Acknowledge 1 false 500) ∷ more

-- a lossy draw leaves its points stale; the refresh behind it repairs them
abbrev pub lossy_then_exact : List Line
lossy_then_exact = Do (Start (black 2 2) 0) ∷ Do (Write true) ∷ Ask ∷ Do MapWindow ∷ Ask ∷ Do (Capture (coarse (rect 0 0 2 2) ∷ []) 1) ∷ Ask
    ∷ Do (File 1 (coarsely (rect 0 0 2 2) (0 ∷ 0 ∷ 0 ∷ 0 ∷ [])) 500) ∷ Do (Write true) ∷ Ask ∷ Do (Acknowledge 1 false 1000) ∷ Do (Capture (exact (rect 0 0 2 2) ∷ []) 2)
    ∷ Do (File 2 (result (rect 0 0 2 2) (0 ∷ 0 ∷ 0 ∷ 0 ∷ [])) 1000) ∷ Ask ∷ Do (Write true) ∷ Ask ∷ []

-- one job for many damaged points covers more than it relieves
abbrev pub one_rectangle_for_many : List Line
one_rectangle_for_many = shown_row (Do (Paint (rect 0 0 1 1) (255 ∷ 0 ∷ 0 ∷ 0 ∷ []) 1000) ∷ Do (Paint (rect 2 0 1 1) (255 ∷ 0 ∷ 255 ∷ 0 ∷ []) 1000) ∷ Ask
    ∷ Do (Capture (exact (rect 0 0 3 1) ∷ []) 2) ∷ Ask ∷ [])

-- an unmap cancels the job; its result is late
abbrev pub unmapped_while_encoding : List Line
unmapped_while_encoding = shown_row (Do (Paint (rect 0 0 2 1) (255 ∷ 255 ∷ 0 ∷ 0 ∷ []) 1000) ∷ Do (Capture (exact (rect 0 0 2 1) ∷ []) 2) ∷ Do (UnmapWindow 1500)
    ∷ Do (Paint (rect 3 0 1 1) (255 ∷ 255 ∷ 0 ∷ 255 ∷ []) 1500) ∷ Do MapWindow ∷ Do (File 2 (result (rect 0 0 2 1) (255 ∷ 255 ∷ [])) 1500) ∷ Ask ∷ [])

-- a point that is painted while its job is in hand is stale after its draw was written
abbrev pub painted_while_encoding : List Line
painted_while_encoding = shown_row (Do (Paint (rect 0 0 1 1) (255 ∷ 0 ∷ 0 ∷ 0 ∷ []) 1000) ∷ Do (Capture (exact (rect 0 0 1 1) ∷ []) 2) ∷ Do (Paint (rect 0 0 1 1) (7 ∷ 0 ∷ 0 ∷ 0 ∷ []) 1500) ∷ Ask
    ∷ Do (File 2 (result (rect 0 0 1 1) (255 ∷ [])) 1500) ∷ Ask ∷ Do (Write true) ∷ Ask ∷ [])

-- an exact draw over a part of a waiting lossy one repairs that part
abbrev pub exact_over_lossy : List Line
exact_over_lossy = Do (Start (black 2 2) 0) ∷ Do (Write true) ∷ Do MapWindow ∷ Do (Capture (coarse (rect 0 0 2 2) ∷ []) 1) ∷ Do (Paint (rect 0 0 1 1) (255 ∷ 0 ∷ 0 ∷ 0 ∷ []) 500) ∷ Ask
    ∷ Do (Capture (exact (rect 0 0 1 1) ∷ []) 2) ∷ Do (File 1 (coarsely (rect 0 0 2 2) (0 ∷ 0 ∷ 0 ∷ 0 ∷ [])) 1000) ∷ Do (File 2 (result (rect 0 0 1 1) (255 ∷ [])) 1000) ∷ Do (Write true) ∷ Ask ∷ Do (Write true) ∷ Ask
    ∷ Do (Capture (exact (rect 0 0 2 2) ∷ []) 3) ∷ Do (File 3 (result (rect 0 0 2 2) (255 ∷ 0 ∷ 0 ∷ 0 ∷ [])) 1500) ∷ Do (Write true) ∷ Ask ∷ []

-- a window that grows has new points stale, and those alone
abbrev pub grown : List Line
grown = shown_row (Ask ∷ Do (Resize 6 1 1000) ∷ Ask ∷ [])

-- a draw that waits in front of two resizes repairs what survives both
abbrev pub shrunk_and_grown : List Line
shrunk_and_grown = shown_row (Do (Paint (rect 0 0 4 1) (255 ∷ 255 ∷ 255 ∷ 255 ∷ []) 1000) ∷ Do (Capture (exact (rect 0 0 4 1) ∷ []) 2)
    ∷ Do (File 2 (result (rect 0 0 4 1) (255 ∷ 255 ∷ 255 ∷ 255 ∷ [])) 1500) ∷ Do (Resize 2 1 1500) ∷ Ask ∷ Do (Resize 4 1 1500) ∷ Ask ∷ Do (Write true) ∷ Ask ∷ [])
