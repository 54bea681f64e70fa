-- What the calls on lossy points come to in the model's window: where its part of the window was the value before, it is the value
-- after.
use Rattle.std.specs.Prelude.{ℕ, ◌≡◌, Bool, true, ◌||◌, List, length, nat_lt}
use Rattle.xp_base.specs.declared.coding.Coding.{Coding}
use Rattle.xp_base.specs.declared.due.Due.{Due}
use Rattle.xp_base.specs.Points.{Rectangle, LiesIn, is_within}
use Rattle.rect_regions.specs.PointSets.{SamePoints, united, shared}
use Rattle.delivery_model.specs.Grids.{Grid, points}
use Rattle.delivery_model.specs.Window.{Job, Window}
use Rattle.delivery_model.specs.Events.{is_empty, started, relief_queued, queued, resized}
use Rattle.delivery_model.specs.Refusals.{is_busy}
use Rattle.lossy_refresh.specs.LossyPoints.{LossySeen, IsFresh, Queues, keeping, IsDue}
use Rattle.lossy_refresh.specs.Delivery.{IsLossyOf, TellsDue}
use Rattle.lossy_refresh.specs.Queue.{QueuedDraw, QueuesAll, ends_lossy, ends_since}

-- a window starts with nothing lossy
abbrev pub StartIsExact : {R : Type 0} → (R → ℕ → ℕ → Bool) → Type 0
StartIsExact {R} has = (desk : Grid) (now : ℕ) (l : LossySeen R) → IsFresh has l → IsLossyOf has desk.wide desk.high l (started desk now)

-- a job's draw is queued
abbrev pub QueuedIsLossy : {R : Type 0} → (R → ℕ → ℕ → Bool) → Type 0
QueuedIsLossy {R} has =
    (now : ℕ) (j : Job) (w : Window) (old new : LossySeen R) (gone : R) → IsLossyOf has w.desk.wide w.desk.high old w
    → LiesIn w.desk.wide w.desk.high j.capture.rect → Queues has j.capture.rect j.capture.coding now old new gone
    → IsLossyOf has w.desk.wide w.desk.high new (queued now j w)

-- with the points that stopped being lossy its relief is the model's
abbrev pub ReliefIsJoined : {R : Type 0} → (R → ℕ → ℕ → Bool) → Type 0
ReliefIsJoined {R} has =
    (r : Rectangle) (coding : Coding) (now : ℕ) (w : Window) (old new : LossySeen R) (gone relief joined : R)
    → IsLossyOf has w.desk.wide w.desk.high old w → Queues has r coding now old new gone
    → SamePoints (has joined) (united (has relief) (has gone))
    → relief_queued w r (points w.desk.wide w.desk.high (has relief)) coding ≡ points w.desk.wide w.desk.high (has joined)

-- a resize to this size, for which the points in it were kept
abbrev pub KeptIsResized : {R : Type 0} → (R → ℕ → ℕ → Bool) → Type 0
KeptIsResized {R} has =
    (wide high now : ℕ) (w : Window) (old new : LossySeen R) (kept : R) → IsLossyOf has w.desk.wide w.desk.high old w
    → SamePoints (has kept) (shared (has old.points) (is_within wide high)) → new ≡ keeping kept old
    → IsLossyOf has wide high new (resized wide high now w)

-- what is due where nothing is pending: busy is a window with jobs in hand or with waiting draws
abbrev pub DueIsTold : {R : Type 0} → (R → ℕ → ℕ → Bool) → Type 0
DueIsTold {R} has =
    (wide high now : ℕ) (busy : Bool) (w : Window) (l : LossySeen R) (d : Due) → IsLossyOf has wide high l w → is_empty w.pending ≡ true
    → busy ≡ (nat_lt 0 (length w.jobs) || is_busy w.packets) → IsDue has l now busy d → TellsDue now w d

-- of any row of draws the last one over a point decides whether it is lossy, and the last lossy one since when
abbrev pub LastDecides : {R : Type 0} → (R → ℕ → ℕ → Bool) → Type 0
LastDecides {R} has =
    (draws : List QueuedDraw) (old new : LossySeen R) → QueuesAll has draws old new
    → (x y : ℕ) → has new.points x y ≡ ends_lossy x y draws (has old.points x y)

abbrev pub LastSince : {R : Type 0} → (R → ℕ → ℕ → Bool) → Type 0
LastSince {R} has = (draws : List QueuedDraw) (old new : LossySeen R) → QueuesAll has draws old new → new.since ≡ ends_since draws old.since
