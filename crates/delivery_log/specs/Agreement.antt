-- The agreement of a window and its log.
use Rattle.std.specs.Prelude.{ℕ, ◌≡◌, Bool, true, ◌&&◌, Option, Some, None, List, [], ◌∷◌, ◌++◌, map, All}
use Rattle.std.specs.List.{list_any}
use Rattle.xp_base.specs.declared.coding.Coding.{Coding}
use Rattle.xp_base.specs.Points.{Rectangle, is_within}
use Rattle.delivery_model.specs.Window.{Job, Draw, Window}
use Rattle.delivery_model.specs.Invariant.{draws_of}
use Rattle.delivery_model.specs.Numbers.{Rise}
use Rattle.delivery_log.specs.Log.{Entry, Fresh, Kept, Damaged, JobCaptured, DrawQueued, DrawWritten}
use Rattle.delivery_log.specs.Stale.{is_capture, is_queueing, queued_draws, written_draws}
use Rattle.delivery_log.specs.Traces.{seen_at, PointAgrees}

-- a job as the log has it
pub record Recorded : Type 0 where
  pub number : ℕ
  pub rect : Rectangle
  pub coding : Coding

abbrev pub recorded : Job → Recorded
recorded j = record { number = j.number; rect = j.capture.rect; coding = j.capture.coding }

-- the jobs that were captured, and the numbers of those that were queued, in order
abbrev pub captured_jobs : List Entry → List Recorded
captured_jobs [] = []
captured_jobs (Fresh ∷ log) = captured_jobs log
captured_jobs (Kept w h ∷ log) = captured_jobs log
captured_jobs (Damaged r ∷ log) = captured_jobs log
captured_jobs (JobCaptured k r coding ∷ log) = record { number = k; rect = r; coding = coding } ∷ captured_jobs log
captured_jobs (DrawQueued k s ∷ log) = captured_jobs log
captured_jobs (DrawWritten s ∷ log) = captured_jobs log

abbrev pub queued_jobs : List Entry → List ℕ
queued_jobs [] = []
queued_jobs (Fresh ∷ log) = queued_jobs log
queued_jobs (Kept w h ∷ log) = queued_jobs log
queued_jobs (Damaged r ∷ log) = queued_jobs log
queued_jobs (JobCaptured k r coding ∷ log) = queued_jobs log
queued_jobs (DrawQueued k s ∷ log) = k ∷ queued_jobs log
queued_jobs (DrawWritten s ∷ log) = queued_jobs log

-- jobs: each number is captured once, and stays below the next one; the jobs in hand are the last ones that were captured, with
-- the same rectangles and codings; the numbers that were queued were captured, rise, and are below those in hand
pub record JobsAgree (next : ℕ) (log : List Entry) (w : Window) : Type 0 where
  pub captured : Rise 0 next (map (λ (c : Recorded). c.number) (captured_jobs log))
  pub before : List Recorded
  pub in_hand : captured_jobs log ≡ before ++ map recorded w.jobs
  pub low : ℕ
  pub queued : Rise 0 low (queued_jobs log)
  pub unqueued : Rise low next (map (λ (j : Job). j.number) w.jobs)
  pub were_captured : All (λ (k : ℕ). list_any (is_capture k) log ≡ true) (queued_jobs log)

-- draws: those that were queued are those that were written and then those that wait, each in order; the sequence numbers rise
-- and are below the next one
pub record DrawsAgree (log : List Entry) (w : Window) : Type 0 where
  pub waiting : queued_draws log ≡ written_draws log ++ map (λ (d : Draw). d.sequence) (draws_of w.packets)
  pub sequences : Rise 0 w.next_sequence (queued_draws log)

-- what an entry says of earlier ones stands among them: a job is queued after it was captured, a draw is written after it was queued
abbrev pub is_later : List Entry → Entry → Bool
is_later front Fresh = true
is_later front (Kept w h) = true
is_later front (Damaged r) = true
is_later front (JobCaptured k r coding) = true
is_later front (DrawQueued k s) = list_any (is_capture k) front
is_later front (DrawWritten s) = list_any (is_queueing (λ k. true) s) front

-- so it is for each of these entries, where others stand in front of them
abbrev pub are_later : List Entry → List Entry → Bool
are_later front [] = true
are_later front (e ∷ log) = is_later front e && are_later (front ++ e ∷ []) log

-- parts 1 and 2 over lists, with what comes later in both; parts 3 to 6 at each point of the window
pub record Agrees (next : ℕ) (log : List Entry) (w : Window) : Type 0 where
  pub jobs : JobsAgree next log w
  pub draws : DrawsAgree log w
  pub later : are_later [] log ≡ true
  pub points : (x y : ℕ) → is_within w.desk.wide w.desk.high x y ≡ true → PointAgrees (seen_at x y log w)

abbrev pub AgreesWhereThere : ℕ → List Entry → Option Window → Type 0
AgreesWhereThere next log None = Unit {0}
AgreesWhereThere next log (Some w) = Agrees next log w
