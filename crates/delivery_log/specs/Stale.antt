-- What a reader of the log alone calls stale: a point of the window that no exact draw has shown as it is since it last changed.
-- No word here of pending, lossy or relief. This project's own.
use Rattle.std.specs.Prelude.{ℕ, Bool, true, false, not, ◌&&◌, ◌||◌, List, [], ◌∷◌, ◌++◌, nat_eq, if◌then◌else◌}
use Rattle.std.specs.List.{list_any}
use Rattle.xp_base.specs.declared.coding.Coding.{Coding}
use Rattle.xp_base.specs.declared.coding.Coding.TheVariants as C
use Rattle.xp_base.specs.Points.{is_in, is_within}
use Rattle.delivery_model.specs.Grids.{Grid}
use Rattle.delivery_model.specs.Events.{same_coding}
use Rattle.delivery_log.specs.Log.{Entry, Fresh, Kept, Damaged, JobCaptured, DrawQueued, DrawWritten}

-- the point's number, or what the client has there, may be another after the entry
abbrev pub is_origin : ℕ → ℕ → Entry → Bool
is_origin x y Fresh = true
is_origin x y (Kept w h) = not (is_within w h x y)
is_origin x y (Damaged r) = is_in r x y
is_origin x y (JobCaptured k r coding) = false
is_origin x y (DrawQueued k s) = false
is_origin x y (DrawWritten s) = false

-- what happened after the last of them, where this is what happened after the last one so far
abbrev pub since : ℕ → ℕ → List Entry → List Entry → List Entry
since x y after [] = after
since x y after (e ∷ log) = since x y (if is_origin x y e then [] else after ++ e ∷ []) log

-- what happened after the point's origin
abbrev pub since_origin : ℕ → ℕ → List Entry → List Entry
since_origin x y log = since x y [] log

-- the entry captures the job with this number
abbrev pub is_capture : ℕ → Entry → Bool
is_capture k Fresh = false
is_capture k (Kept w h) = false
is_capture k (Damaged r) = false
is_capture k (JobCaptured i r coding) = nat_eq i k
is_capture k (DrawQueued i s) = false
is_capture k (DrawWritten s) = false

-- and it covers the point, with this coding
abbrev pub is_covering : ℕ → ℕ → Coding → ℕ → Entry → Bool
is_covering x y coding k Fresh = false
is_covering x y coding k (Kept w h) = false
is_covering x y coding k (Damaged r) = false
is_covering x y coding k (JobCaptured i r c) = nat_eq i k && (same_coding c coding && is_in r x y)
is_covering x y coding k (DrawQueued i s) = false
is_covering x y coding k (DrawWritten s) = false

-- the entry queues the draw with this sequence number, of a job that is such
abbrev pub is_queueing : (ℕ → Bool) → ℕ → Entry → Bool
is_queueing test s Fresh = false
is_queueing test s (Kept w h) = false
is_queueing test s (Damaged r) = false
is_queueing test s (JobCaptured k r coding) = false
is_queueing test s (DrawQueued k i) = nat_eq i s && test k
is_queueing test s (DrawWritten i) = false

-- the draw is that of an exact job that covers the point and was captured after its origin
abbrev pub is_repair : ℕ → ℕ → List Entry → ℕ → Bool
is_repair x y log s = list_any (is_queueing (λ k. list_any (is_covering x y C.Exact k) (since_origin x y log)) s) log

-- the draw is that of a lossy job that covers the point
abbrev pub is_lossy_over : ℕ → ℕ → List Entry → ℕ → Bool
is_lossy_over x y log s = list_any (is_queueing (λ k. list_any (is_covering x y C.Lossy k) log) s) log

-- of these draws, in this order, some is a repair of the point, and no lossy one over it stands behind that
abbrev pub are_repairing : ℕ → ℕ → List Entry → List ℕ → Bool
are_repairing x y log [] = false
are_repairing x y log (s ∷ draws) = (is_repair x y log s && not (list_any (is_lossy_over x y log) draws)) || are_repairing x y log draws

-- the draws that were queued, and those that were written, in order
abbrev pub queued_draws : List Entry → List ℕ
queued_draws [] = []
queued_draws (Fresh ∷ log) = queued_draws log
queued_draws (Kept w h ∷ log) = queued_draws log
queued_draws (Damaged r ∷ log) = queued_draws log
queued_draws (JobCaptured k r coding ∷ log) = queued_draws log
queued_draws (DrawQueued k s ∷ log) = s ∷ queued_draws log
queued_draws (DrawWritten s ∷ log) = queued_draws log

abbrev pub written_draws : List Entry → List ℕ
written_draws [] = []
written_draws (Fresh ∷ log) = written_draws log
written_draws (Kept w h ∷ log) = written_draws log
written_draws (Damaged r ∷ log) = written_draws log
written_draws (JobCaptured k r coding ∷ log) = written_draws log
written_draws (DrawQueued k s ∷ log) = written_draws log
written_draws (DrawWritten s ∷ log) = s ∷ written_draws log

-- a point of the window is stale until the draws that were written repair it
abbrev pub is_stale : Grid → List Entry → ℕ → ℕ → Bool
is_stale desk log x y = is_within desk.wide desk.high x y && not (are_repairing x y log (written_draws log))

-- the same once all waiting draws are written
abbrev pub is_stale_queued : Grid → List Entry → ℕ → ℕ → Bool
is_stale_queued desk log x y = is_within desk.wide desk.high x y && not (are_repairing x y log (queued_draws log))
