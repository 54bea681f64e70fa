-- Every event keeps the times.
use Rattle.std.proofs.Common.{◌≡◌, ℕ, ◌+◌, ◌-◌, ◌*◌, ◌/◌, ◌≤◌, Bool, true, false, not, ◌&&◌, List, [], ◌∷◌, Option, Some, None, cond, refl, arith}
use Rattle.std.specs.Prelude.{min, max, length, nat_le}
use Rattle.xp_base.specs.declared.coding.Coding.{Coding}
use Rattle.xp_base.specs.declared.coding.Coding.TheVariants as C
use Rattle.xp_base.specs.Points.{Rectangle}
use Rattle.delivery_model.specs.Grids.{Points}
use Rattle.delivery_model.specs.Window.{Job, Packet, Sent, Window}
use Rattle.delivery_model.specs.Events.{is_empty, put_pending, painted, Planned, load, captured, queued, lossy_since_queued, queue_ready, with_result, Filing, Late, Foreign, Filed, filing_of, capture_of, filed_as, written_front, rect_sent, without_sent, counted, acknowledged_as, given_back, resized, Event, Start, Paint, Capture, File, Write, Acknowledge, MapWindow, UnmapWindow, Recall, Resize, BufferRefresh, Close, changed, step}
use Rattle.delivery_model.specs.Refusals.{earliest}
use Rattle.delivery_log.specs.Times.{IsTimed, TimedWhereThere, IsBy}

pub timed_later : (clock later : ℕ) (w : Window) → clock ≤ later → IsTimed clock w → IsTimed later w
timed_later clock later w le timed = record { pending = omega (arith, timed.pending, le); lossy = omega (arith, timed.lossy, le); least = timed.least; greatest = timed.greatest }

since_by : (b : Bool) (clock now was : ℕ) → now ≤ clock → was ≤ clock → cond b now was ≤ clock
since_by true clock now was early past = early
since_by false clock now was early past = past

timed_pending : (clock now : ℕ) (set : Points) (w : Window) → now ≤ clock → IsTimed clock w → IsTimed clock (put_pending set now w)
timed_pending clock now set w early timed = record { pending = since_by (is_empty w.pending && not (is_empty set)) clock now w.pending_since early timed.pending; lossy = timed.lossy; least = timed.least; greatest = timed.greatest }

timed_as : (clock : ℕ) (v w : Window) → v.pending_since ≡ w.pending_since → v.lossy_since ≡ w.lossy_since → v.delay ≡ w.delay → IsTimed clock w → IsTimed clock v
timed_as clock v w pending lossy delay timed = record { pending = rw pending timed.pending; lossy = rw lossy timed.lossy; least = rw delay timed.least; greatest = rw delay timed.greatest }

slower : (b : Bool) (d : ℕ) → 10 ≤ d → d ≤ 500 → (10 ≤ cond b (min 500 (2 * d)) d) × (cond b (min 500 (2 * d)) d ≤ 500)
slower true d least greatest = (omega (arith, least, greatest), omega (arith, least, greatest))
slower false d least greatest = (least, greatest)

faster : (b : Bool) (d q : ℕ) → 10 ≤ d → d ≤ 500 → (10 ≤ cond b (max 10 (d - q)) d) × (cond b (max 10 (d - q)) d ≤ 500)
faster true d q least greatest = (omega (arith, least, greatest), omega (arith, least, greatest))
faster false d q least greatest = (least, greatest)

timed_captured : (clock : ℕ) (plan : List Planned) (first : ℕ) (w : Window) → IsTimed clock w → IsTimed clock (captured plan first w)
timed_captured clock plan first w timed =
    let delays = slower (nat_le 32 (load w)) w.delay timed.least timed.greatest in
    record { pending = timed.pending; lossy = timed.lossy; least = delays.0; greatest = delays.1 }

timed_counted : (clock : ℕ) (left : List Sent) (w : Window) → IsTimed clock w → IsTimed clock (counted left w)
timed_counted clock left w timed =
    let delays = faster (nat_le (length w.jobs + length left) 8) w.delay (w.delay / 4) timed.least timed.greatest in
    record { pending = timed.pending; lossy = timed.lossy; least = delays.0; greatest = delays.1 }

timed_queued : (clock now : ℕ) (j : Job) (w : Window) → now ≤ clock → IsTimed clock w → IsTimed clock (queued now j w)
timed_queued clock now j w early timed = record { pending = timed.pending; lossy = coded j.capture.coding; least = timed.least; greatest = timed.greatest }
  where
    coded : (coding : Coding) → lossy_since_queued now w coding ≤ clock
    coded C.Exact = timed.lossy
    coded C.Lossy = early

timed_ready : (clock now : ℕ) (jobs : List Job) (w : Window) → now ≤ clock → IsTimed clock w → IsTimed clock (queue_ready now jobs w)
timed_ready clock now [] w early timed = timed_as clock (record w { jobs = [] }) w refl refl refl timed
timed_ready clock now (j ∷ jobs) w early timed = which j.encoded (timed_ready clock now jobs (queued now j w) early (timed_queued clock now j w early timed))
  where
    which : (b : Bool) → IsTimed clock (queue_ready now jobs (queued now j w)) → IsTimed clock (cond b (queue_ready now jobs (queued now j w)) (record w { jobs = j ∷ jobs }))
    which true left = left
    which false left = timed_as clock (record w { jobs = j ∷ jobs }) w refl refl refl timed

timed_filed : (clock now : ℕ) (f : Filing) (k : ℕ) (w : Window) → now ≤ clock → IsTimed clock w → IsTimed clock (filed_as f k now w)
timed_filed clock now Late k w early timed = timed
timed_filed clock now Foreign k w early timed = timed
timed_filed clock now Filed k w early timed = timed_ready clock now (with_result w.jobs k) w early timed

timed_front : (clock : ℕ) (lossy_shows : ℕ → ℕ) (packets : List Packet) (w : Window) → IsTimed clock w → IsTimed clock (written_front lossy_shows packets w)
timed_front clock lossy_shows [] w timed = timed
timed_front clock lossy_shows (p ∷ packets) w timed = timed_as clock (written_front lossy_shows (p ∷ packets) w) w refl refl refl timed

pub timed_acknowledged : (clock : ℕ) (o : Option Rectangle) (k : ℕ) (w : Window) (now : ℕ) → IsTimed clock w → IsTimed clock (acknowledged_as o k false now w)
timed_acknowledged clock None k w now timed = timed
timed_acknowledged clock (Some r) k w now timed = timed_counted clock (without_sent w.unacknowledged k) w timed

timed_late : (clock : ℕ) (o : Option Rectangle) (k : ℕ) (w : Window) (now : ℕ) → now ≤ clock → IsTimed clock w → IsTimed clock (acknowledged_as o k true now w)
timed_late clock None k w now early timed = timed
timed_late clock (Some r) k w now early timed = timed_pending clock now _ (counted (without_sent w.unacknowledged k) w) early (timed_counted clock (without_sent w.unacknowledged k) w timed)

timed_given_back : (clock now : ℕ) (w : Window) → now ≤ clock → IsTimed clock w → IsTimed clock (given_back now w)
timed_given_back clock now w early timed = timed_pending clock now _ (record w { jobs = [] }) early (timed_as clock (record w { jobs = [] }) w refl refl refl timed)

timed_unmapped : (clock now : ℕ) (w : Window) → now ≤ clock → IsTimed clock w → (b : Bool) → IsTimed clock (cond b (record (given_back now w) { mapped = false }) w)
timed_unmapped clock now w early timed true = timed_as clock (record (given_back now w) { mapped = false }) (given_back now w) refl refl refl (timed_given_back clock now w early timed)
timed_unmapped clock now w early timed false = timed

timed_resized : (clock wide high now : ℕ) (w : Window) → now ≤ clock → IsTimed clock w → IsTimed clock (resized wide high now w)
timed_resized clock wide high now w early timed = record {
  pending = since_by (is_empty w.pending && not (is_empty (resized wide high now w).pending)) clock now w.pending_since early timed.pending;
  lossy = timed.lossy;
  least = timed.least;
  greatest = timed.greatest;
}

timed_changed : (lossy_shows : ℕ → ℕ) (clock : ℕ) (e : Event) (w : Window) → IsBy clock e → IsTimed clock w → TimedWhereThere clock (changed lossy_shows e w)
timed_changed lossy_shows clock (Start desk now) w early timed = timed
timed_changed lossy_shows clock (Paint r numbers now) w early timed = timed_pending clock now _ (record w { desk = painted r numbers w.desk }) early (timed_as clock (record w { desk = painted r numbers w.desk }) w refl refl refl timed)
timed_changed lossy_shows clock (Capture plan first) w early timed = timed_captured clock plan first w timed
timed_changed lossy_shows clock (File k capture now) w early timed = timed_filed clock now (filing_of (capture_of w.jobs k) capture) k w early timed
timed_changed lossy_shows clock (Write true) w early timed = timed_front clock lossy_shows w.packets w timed
timed_changed lossy_shows clock (Write false) w early timed = timed
timed_changed lossy_shows clock (Acknowledge k true now) w early timed = timed_late clock (rect_sent w.unacknowledged k) k w now early timed
timed_changed lossy_shows clock (Acknowledge k false now) w early timed = timed_acknowledged clock (rect_sent w.unacknowledged k) k w now timed
timed_changed lossy_shows clock MapWindow w early timed = timed_as clock (record w { mapped = true }) w refl refl refl timed
timed_changed lossy_shows clock (UnmapWindow now) w early timed = timed_unmapped clock now w early timed w.mapped
timed_changed lossy_shows clock (Recall now) w early timed = timed_given_back clock now w early timed
timed_changed lossy_shows clock (Resize wide high now) w early timed = timed_resized clock wide high now w early timed
timed_changed lossy_shows clock (BufferRefresh now) w early timed = timed_pending clock now _ w early timed
timed_changed lossy_shows clock Close w early timed = tt

pub timed_step : (lossy_shows : ℕ → ℕ) (clock : ℕ) (o : Option Window) (e : Event) → IsBy clock e → TimedWhereThere clock o → TimedWhereThere clock (step lossy_shows o e)
timed_step lossy_shows clock (Some w) e early timed = timed_changed lossy_shows clock e w early timed
timed_step lossy_shows clock None (Start desk now) early timed = record { pending = early; lossy = omega arith; least = omega arith; greatest = omega arith }
timed_step lossy_shows clock None (Paint r numbers now) early timed = tt
timed_step lossy_shows clock None (Capture plan first) early timed = tt
timed_step lossy_shows clock None (File k capture now) early timed = tt
timed_step lossy_shows clock None (Write wholly) early timed = tt
timed_step lossy_shows clock None (Acknowledge k negative now) early timed = tt
timed_step lossy_shows clock None MapWindow early timed = tt
timed_step lossy_shows clock None (UnmapWindow now) early timed = tt
timed_step lossy_shows clock None (Recall now) early timed = tt
timed_step lossy_shows clock None (Resize wide high now) early timed = tt
timed_step lossy_shows clock None (BufferRefresh now) early timed = tt
timed_step lossy_shows clock None Close early timed = tt

-- after 500 milliseconds
pub due_after : (clock : ℕ) (w : Window) → IsTimed clock w → earliest w ≤ clock + 500
due_after clock w timed = which (is_empty w.pending)
  where
    which : (b : Bool) → cond b (w.lossy_since + 250) (w.pending_since + w.delay) ≤ clock + 500
    which true = omega (arith, timed.lossy)
    which false = omega (arith, timed.pending, timed.greatest)
