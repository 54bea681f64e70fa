-- The situations computed: at each question what is owed, what the log alone calls stale, and how far from rest the window is; that
-- the parts of the agreement and the numbering stand; the log itself; and what happened after a point's origin.
use Rattle.std.proofs.Common.{◌≡◌, ℕ, Bool, true, false, List, [], ◌∷◌, ◌++◌, None, refl}
use Rattle.xp_base.specs.declared.coding.Coding.TheVariants as C
use Rattle.delivery_model.specs.Grids.{each_point, has, number, number_in}
use Rattle.delivery_model.specs.Window.{Window}
use Rattle.delivery_model.specs.Events.{is_empty, started, Acknowledge, Resize}
use Rattle.delivery_log.specs.Log.{Entry, Fresh, Kept, Damaged, JobCaptured, DrawQueued, DrawWritten, entries}
use Rattle.delivery_log.specs.Stale.{since_origin, are_repairing, is_stale, is_stale_queued, written_draws, queued_draws}
use Rattle.delivery_log.proofs.Situations.{Line, answers, checks, all_stand, logged, rect, black, next_number, lossy_then_exact, one_rectangle_for_many, unmapped_while_encoding, painted_while_encoding, exact_over_lossy, grown, shrunk_and_grown}

abbrev answered : List Line → List (List ℕ)
answered lines = answers next_number [] None lines

abbrev stands : List Line → List (List ℕ)
stands lines = checks next_number 1 [] None lines

abbrev log_at_end : List Line → List Entry
log_at_end lines = logged next_number [] None lines

-- whether the written draws repair a point
abbrev relieved : List Entry → ℕ → ℕ → Bool
relieved log x y = are_repairing x y log (written_draws log)

-- a row that the client shows
abbrev row_shown : List Entry
row_shown = Fresh ∷ JobCaptured 1 (rect 0 0 4 1) C.Exact ∷ DrawQueued 1 1 ∷ DrawWritten 1 ∷ []

-- lossy, then exact: each turn comes nearer to rest
lossy_answers : answered lossy_then_exact ≡ (4 ∷ 4 ∷ 4 ∷ 0 ∷ []) ∷ (4 ∷ 4 ∷ 4 ∷ 2 ∷ []) ∷ (4 ∷ 4 ∷ 4 ∷ 3 ∷ []) ∷ (4 ∷ 4 ∷ 4 ∷ 1 ∷ []) ∷ (4 ∷ 4 ∷ 0 ∷ 3 ∷ []) ∷ (0 ∷ 0 ∷ 0 ∷ 0 ∷ []) ∷ []
unfolding each_point has number number_in is_empty
lossy_answers = refl

lossy_stands : stands lossy_then_exact ≡ all_stand 4 ∷ all_stand 4 ∷ all_stand 4 ∷ all_stand 4 ∷ all_stand 4 ∷ all_stand 4 ∷ []
unfolding each_point has number number_in is_empty
lossy_stands = refl

abbrev lossy_log : List Entry
lossy_log = Fresh ∷ JobCaptured 1 (rect 0 0 2 2) C.Lossy ∷ DrawQueued 1 1 ∷ DrawWritten 1 ∷ JobCaptured 2 (rect 0 0 2 2) C.Exact ∷ DrawQueued 2 2 ∷ DrawWritten 2 ∷ []

lossy_logged : log_at_end lossy_then_exact ≡ lossy_log
unfolding each_point has number number_in is_empty
lossy_logged = refl

lossy_origin : (since_origin 1 1 lossy_log ≡ JobCaptured 1 (rect 0 0 2 2) C.Lossy ∷ DrawQueued 1 1 ∷ DrawWritten 1 ∷ JobCaptured 2 (rect 0 0 2 2) C.Exact ∷ DrawQueued 2 2 ∷ DrawWritten 2 ∷ []) × (relieved lossy_log 1 1 ≡ true)
lossy_origin = (refl, refl)

-- one rectangle for many points
many_answers : answered one_rectangle_for_many ≡ (2 ∷ 2 ∷ 2 ∷ 2 ∷ []) ∷ (2 ∷ 2 ∷ 2 ∷ 3 ∷ []) ∷ []
unfolding each_point has number number_in is_empty
many_answers = refl

many_stands : stands one_rectangle_for_many ≡ all_stand 4 ∷ all_stand 4 ∷ []
unfolding each_point has number number_in is_empty
many_stands = refl

abbrev many_log : List Entry
many_log = row_shown ++ Damaged (rect 0 0 1 1) ∷ Damaged (rect 2 0 1 1) ∷ JobCaptured 2 (rect 0 0 3 1) C.Exact ∷ []

many_logged : log_at_end one_rectangle_for_many ≡ many_log
unfolding each_point has number number_in is_empty
many_logged = refl

-- the point between was damaged by neither: it is still relieved by the first draw
many_origin : (since_origin 0 0 many_log ≡ Damaged (rect 2 0 1 1) ∷ JobCaptured 2 (rect 0 0 3 1) C.Exact ∷ []) × ((relieved many_log 0 0 ≡ false) × (relieved many_log 1 0 ≡ true))
many_origin = (refl, (refl, refl))

-- an unmap while a job is in hand
unmapped_answers : answered unmapped_while_encoding ≡ (3 ∷ 3 ∷ 3 ∷ 2 ∷ []) ∷ []
unfolding each_point has number number_in is_empty
unmapped_answers = refl

unmapped_stands : stands unmapped_while_encoding ≡ all_stand 4 ∷ []
unfolding each_point has number number_in is_empty
unmapped_stands = refl

-- neither the unmap nor the late result is in the log
abbrev unmapped_log : List Entry
unmapped_log = row_shown ++ Damaged (rect 0 0 2 1) ∷ JobCaptured 2 (rect 0 0 2 1) C.Exact ∷ Damaged (rect 3 0 1 1) ∷ []

unmapped_logged : log_at_end unmapped_while_encoding ≡ unmapped_log
unfolding each_point has number number_in is_empty
unmapped_logged = refl

unmapped_origin : (since_origin 1 0 unmapped_log ≡ JobCaptured 2 (rect 0 0 2 1) C.Exact ∷ Damaged (rect 3 0 1 1) ∷ []) × ((relieved unmapped_log 1 0 ≡ false) × (relieved unmapped_log 2 0 ≡ true))
unmapped_origin = (refl, (refl, refl))

-- a paint while a job is in hand
painted_answers : answered painted_while_encoding ≡ (1 ∷ 1 ∷ 1 ∷ 3 ∷ []) ∷ (1 ∷ 1 ∷ 1 ∷ 3 ∷ []) ∷ (1 ∷ 1 ∷ 1 ∷ 2 ∷ []) ∷ []
unfolding each_point has number number_in is_empty
painted_answers = refl

painted_stands : stands painted_while_encoding ≡ all_stand 4 ∷ all_stand 4 ∷ all_stand 4 ∷ []
unfolding each_point has number number_in is_empty
painted_stands = refl

abbrev painted_log : List Entry
painted_log = row_shown ++ Damaged (rect 0 0 1 1) ∷ JobCaptured 2 (rect 0 0 1 1) C.Exact ∷ Damaged (rect 0 0 1 1) ∷ DrawQueued 2 2 ∷ DrawWritten 2 ∷ []

painted_logged : log_at_end painted_while_encoding ≡ painted_log
unfolding each_point has number number_in is_empty
painted_logged = refl

-- the job was captured before the point's origin
painted_origin : (since_origin 0 0 painted_log ≡ DrawQueued 2 2 ∷ DrawWritten 2 ∷ []) × (relieved painted_log 0 0 ≡ false)
painted_origin = (refl, refl)

-- exact over a part of a lossy draw
over_answers : answered exact_over_lossy ≡ (4 ∷ 4 ∷ 4 ∷ 3 ∷ []) ∷ (4 ∷ 4 ∷ 3 ∷ 3 ∷ []) ∷ (3 ∷ 3 ∷ 3 ∷ 1 ∷ []) ∷ (0 ∷ 0 ∷ 0 ∷ 0 ∷ []) ∷ []
unfolding each_point has number number_in is_empty
over_answers = refl

over_stands : stands exact_over_lossy ≡ all_stand 4 ∷ all_stand 4 ∷ all_stand 4 ∷ all_stand 4 ∷ []
unfolding each_point has number number_in is_empty
over_stands = refl

abbrev over_log : List Entry
over_log = Fresh ∷ JobCaptured 1 (rect 0 0 2 2) C.Lossy ∷ Damaged (rect 0 0 1 1) ∷ JobCaptured 2 (rect 0 0 1 1) C.Exact ∷ DrawQueued 1 1 ∷ DrawQueued 2 2 ∷ DrawWritten 1 ∷ DrawWritten 2
    ∷ JobCaptured 3 (rect 0 0 2 2) C.Exact ∷ DrawQueued 3 3 ∷ DrawWritten 3 ∷ []

over_logged : log_at_end exact_over_lossy ≡ over_log
unfolding each_point has number number_in is_empty
over_logged = refl

-- the refresh covers the point that was repaired already: its first repair counts, and the second does no harm
over_origin : (since_origin 0 0 over_log ≡ JobCaptured 2 (rect 0 0 1 1) C.Exact ∷ DrawQueued 1 1 ∷ DrawQueued 2 2 ∷ DrawWritten 1 ∷ DrawWritten 2 ∷ JobCaptured 3 (rect 0 0 2 2) C.Exact ∷ DrawQueued 3 3 ∷ DrawWritten 3 ∷ [])
    × ((are_repairing 0 0 over_log (1 ∷ 2 ∷ []) ≡ true) × (are_repairing 1 0 over_log (1 ∷ 2 ∷ []) ≡ false))
over_origin = (refl, (refl, refl))

-- a window that grows
grown_answers : answered grown ≡ (0 ∷ 0 ∷ 0 ∷ 0 ∷ []) ∷ (2 ∷ 2 ∷ 2 ∷ 3 ∷ []) ∷ []
unfolding each_point has number number_in is_empty
grown_answers = refl

grown_stands : stands grown ≡ all_stand 4 ∷ all_stand 6 ∷ []
unfolding each_point has number number_in is_empty
grown_stands = refl

grown_logged : log_at_end grown ≡ row_shown ++ Kept 4 1 ∷ []
unfolding each_point has number number_in is_empty
grown_logged = refl

-- what both sizes have keeps its origin, and what is new gets another
grown_origin : (since_origin 3 0 (row_shown ++ Kept 4 1 ∷ []) ≡ JobCaptured 1 (rect 0 0 4 1) C.Exact ∷ DrawQueued 1 1 ∷ DrawWritten 1 ∷ Kept 4 1 ∷ []) × ((since_origin 4 0 (row_shown ++ Kept 4 1 ∷ []) ≡ []) × (relieved (row_shown ++ Kept 4 1 ∷ []) 4 0 ≡ false))
grown_origin = (refl, (refl, refl))

-- a draw in front of two resizes
shrunk_answers : answered shrunk_and_grown ≡ (2 ∷ 2 ∷ 0 ∷ 3 ∷ []) ∷ (4 ∷ 4 ∷ 2 ∷ 3 ∷ []) ∷ (2 ∷ 2 ∷ 2 ∷ 3 ∷ []) ∷ []
unfolding each_point has number number_in is_empty
shrunk_answers = refl

shrunk_stands : stands shrunk_and_grown ≡ all_stand 2 ∷ all_stand 4 ∷ all_stand 4 ∷ []
unfolding each_point has number number_in is_empty
shrunk_stands = refl

abbrev shrunk_log : List Entry
shrunk_log = row_shown ++ Damaged (rect 0 0 4 1) ∷ JobCaptured 2 (rect 0 0 4 1) C.Exact ∷ DrawQueued 2 2 ∷ Kept 4 1 ∷ Kept 2 1 ∷ DrawWritten 2 ∷ []

shrunk_logged : log_at_end shrunk_and_grown ≡ shrunk_log
unfolding each_point has number number_in is_empty
shrunk_logged = refl

shrunk_origin : (since_origin 2 0 shrunk_log ≡ DrawWritten 2 ∷ []) × ((relieved shrunk_log 2 0 ≡ false) × ((relieved shrunk_log 1 0 ≡ true) × (queued_draws shrunk_log ≡ 1 ∷ 2 ∷ [])))
shrunk_origin = (refl, (refl, (refl, refl)))

-- the example of docs/MODEL.md, row by row: whether the one point is stale, and whether it is once all is written
abbrev told : List Entry → List Bool
told log = is_stale (black 1 1) log 0 0 ∷ is_stale_queued (black 1 1) log 0 0 ∷ []

abbrev drawn_once : List Entry
drawn_once = Fresh ∷ JobCaptured 1 (rect 0 0 1 1) C.Exact ∷ DrawQueued 1 1 ∷ DrawWritten 1 ∷ []

abbrev damaged_again : List Entry
damaged_again = drawn_once ++ Damaged (rect 0 0 1 1) ∷ JobCaptured 2 (rect 0 0 1 1) C.Exact ∷ Damaged (rect 0 0 1 1) ∷ []

abbrev drawn_late : List Entry
drawn_late = damaged_again ++ DrawQueued 2 2 ∷ DrawWritten 2 ∷ []

example_begins : (told (Fresh ∷ []) ≡ true ∷ true ∷ []) × ((told (Fresh ∷ JobCaptured 1 (rect 0 0 1 1) C.Exact ∷ DrawQueued 1 1 ∷ []) ≡ true ∷ false ∷ []) × (told drawn_once ≡ false ∷ false ∷ []))
example_begins = (refl, (refl, refl))

example_goes_on : (told (drawn_once ++ Damaged (rect 0 0 1 1) ∷ JobCaptured 2 (rect 0 0 1 1) C.Exact ∷ []) ≡ true ∷ true ∷ []) × ((told damaged_again ≡ true ∷ true ∷ []) × (told drawn_late ≡ true ∷ true ∷ []))
example_goes_on = (refl, (refl, refl))

example_ends : told (drawn_late ++ JobCaptured 3 (rect 0 0 1 1) C.Exact ∷ DrawQueued 3 3 ∷ DrawWritten 3 ∷ []) ≡ false ∷ false ∷ []
example_ends = refl

-- a late client's draw counts as damage as far as it lies in the window: of draw 1 a part does, of draw 2 nothing
abbrev part_beyond : Window
part_beyond = record (started (black 2 1) 0) { unacknowledged = record { sequence = 1; rect = rect 1 0 3 1 } ∷ record { sequence = 2; rect = rect 2 0 2 1 } ∷ []; next_sequence = 3 }

late_entries : (entries (Acknowledge 1 true 500) part_beyond ≡ Damaged (rect 1 0 1 1) ∷ []) × ((entries (Acknowledge 2 true 500) part_beyond ≡ []) × ((entries (Acknowledge 1 false 500) part_beyond ≡ []) × (entries (Acknowledge 3 true 500) part_beyond ≡ [])))
late_entries = (refl, (refl, (refl, refl)))

-- a resize has the size that was
resize_entries : entries (Resize 5 4 500) part_beyond ≡ Kept 2 1 ∷ []
resize_entries = refl
