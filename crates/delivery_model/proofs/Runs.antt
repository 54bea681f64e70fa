-- Every event keeps the form, and so does every list of events; numbers of jobs never come back.
use Rattle.std.proofs.Common.{◌≡◌, ◌⊎◌, inl, inr, ℕ, ◌+◌, ◌<◌, ◌≤◌, Bool, true, false, List, [], ◌∷◌, ◌++◌, Option, Some, None, cond, refl, arith}
use Rattle.std.specs.Prelude.{nat_eq}
use Rattle.std.proofs.lemmas.Bool.{cases_Bool, eqb-true}
use Rattle.xp_base.specs.Points.{Rectangle, whole}
use Rattle.delivery_model.specs.Grids.{Points}
use Rattle.xp_base.specs.Captures.{Captured}
use Rattle.delivery_model.specs.Window.{Job, Packet, Window}
use Rattle.delivery_model.specs.Events.{Planned, region_taken, jobs_of, queued, queue_ready, with_result, Filing, Late, Foreign, Filed, filing_of, capture_of, filed_as, given_back, acknowledged_as, rect_sent, written_front, Event, Start, Paint, Capture, File, Write, Acknowledge, MapWindow, UnmapWindow, Recall, Resize, BufferRefresh, Close, changed, step, run}
use Rattle.delivery_model.specs.Plans.{IsEvent, AreEvents}
use Rattle.delivery_model.specs.Kept.{IsKept}
use Rattle.delivery_model.specs.Laws.{KeptWhereThere}
use Rattle.delivery_model.specs.Numbers.{HasJob, IsInHand, NumbersFrom, AllNumberFrom, IsGone}
use Rattle.delivery_model.proofs.WindowSteps.{keeps_started, keeps_damaged, keeps_painted, keeps_written, keeps_acknowledged, keeps_marked, keeps_given_back, keeps_unmapped, keeps_resized}
use Rattle.delivery_model.proofs.JobSteps.{keeps_captured, keeps_filed}

pub kept_changed : (lossy_shows : ℕ → ℕ) (e : Event) (w : Window) → IsEvent (Some w) e → IsKept w → KeptWhereThere (changed lossy_shows e w)
kept_changed lossy_shows (Start desk now) w event kept = kept
kept_changed lossy_shows (Paint r numbers now) w event kept = keeps_painted r numbers now w kept
kept_changed lossy_shows (Capture plan first) w event kept = keeps_captured plan first w event.planned kept
kept_changed lossy_shows (File k capture now) w event kept = keeps_filed k capture now w kept
kept_changed lossy_shows (Write wholly) w event kept = keeps_written lossy_shows wholly w kept
kept_changed lossy_shows (Acknowledge k negative now) w event kept = keeps_acknowledged k negative now w kept
kept_changed lossy_shows MapWindow w event kept = keeps_marked true w kept
kept_changed lossy_shows (UnmapWindow now) w event kept = keeps_unmapped now w kept
kept_changed lossy_shows (Recall now) w event kept = keeps_given_back now w kept
kept_changed lossy_shows (Resize wide high now) w event kept = keeps_resized wide high now w kept
kept_changed lossy_shows (BufferRefresh now) w event kept = keeps_damaged (whole w.desk.wide w.desk.high) now w kept
kept_changed lossy_shows Close w event kept = tt

pub kept_step : (lossy_shows : ℕ → ℕ) (o : Option Window) (e : Event) → IsEvent o e → KeptWhereThere o → KeptWhereThere (step lossy_shows o e)
kept_step lossy_shows (Some w) e event kept = kept_changed lossy_shows e w event kept
kept_step lossy_shows None (Start desk now) event kept = keeps_started desk now
kept_step lossy_shows None (Paint r numbers now) event kept = tt
kept_step lossy_shows None (Capture plan first) event kept = tt
kept_step lossy_shows None (File k capture now) event kept = tt
kept_step lossy_shows None (Write wholly) event kept = tt
kept_step lossy_shows None (Acknowledge k negative now) event kept = tt
kept_step lossy_shows None MapWindow event kept = tt
kept_step lossy_shows None (UnmapWindow now) event kept = tt
kept_step lossy_shows None (Recall now) event kept = tt
kept_step lossy_shows None (Resize wide high now) event kept = tt
kept_step lossy_shows None (BufferRefresh now) event kept = tt
kept_step lossy_shows None Close event kept = tt

pub kept_run : (lossy_shows : ℕ → ℕ) (o : Option Window) (events : List Event) → AreEvents lossy_shows o events → KeptWhereThere o → KeptWhereThere (run lossy_shows o events)
kept_run lossy_shows o [] are kept = kept
kept_run lossy_shows o (e ∷ events) are kept = kept_run lossy_shows (step lossy_shows o e) events are.1 (kept_step lossy_shows o e are.0 kept)

-- jobs in hand after an event
has-append : (jobs new : List Job) (k : ℕ) (c : Captured) → HasJob (jobs ++ new) k c → HasJob jobs k c ⊎ HasJob new k c
has-append [] new k c job = inr job
has-append (j ∷ jobs) new k c (inl here) = inl (inl here)
has-append (j ∷ jobs) new k c (inr later) = elim (has-append jobs new k c later) [ inl old ↦ inl (inr old) | inr fresh ↦ inr fresh ]

new_numbers : (w : Window) (region : Points) (first : ℕ) (plan : List Planned) (k : ℕ) (c : Captured) → HasJob (jobs_of w.desk region first plan) k c → first ≤ k
new_numbers w region first [] k c job = absurd job
new_numbers w region first (p ∷ plan) k c (inl here) = omega (arith, here.0)
new_numbers w region first (p ∷ plan) k c (inr later) = omega (arith, new_numbers w region (first + 1) plan k c later)

has-with_result : (jobs : List Job) (i k : ℕ) (c : Captured) → HasJob (with_result jobs i) k c → HasJob jobs k c
has-with_result [] i k c job = job
has-with_result (j ∷ jobs) i k c job = which (cases_Bool (nat_eq j.number i)) (has-with_result jobs i k c)
  where
    which : (nat_eq j.number i ≡ true) ⊎ (nat_eq j.number i ≡ false) → (HasJob (with_result jobs i) k c → HasJob jobs k c) → HasJob (j ∷ jobs) k c
    which (inl same) rest = same_number (rw same at job)
      where
        same_number : ((j.number ≡ k) × (j.capture ≡ c)) ⊎ HasJob jobs k c → HasJob (j ∷ jobs) k c
        same_number (inl here) = inl here
        same_number (inr later) = inr later
    which (inr other) rest = other_number (rw other at job)
      where
        other_number : ((j.number ≡ k) × (j.capture ≡ c)) ⊎ HasJob (with_result jobs i) k c → HasJob (j ∷ jobs) k c
        other_number (inl here) = inl here
        other_number (inr later) = inr (rest later)

has-ready : (now : ℕ) (jobs : List Job) (w : Window) (k : ℕ) (c : Captured) → HasJob (queue_ready now jobs w).jobs k c → HasJob jobs k c
has-ready now [] w k c job = job
has-ready now (j ∷ jobs) w k c job = which j.encoded (has-ready now jobs (queued now j w) k c) job
  where
    which : (b : Bool) → (HasJob (queue_ready now jobs (queued now j w)).jobs k c → HasJob jobs k c)
        → HasJob (cond b (queue_ready now jobs (queued now j w)) (record w { jobs = j ∷ jobs })).jobs k c → HasJob (j ∷ jobs) k c
    which true left there = inr (left there)
    which false left there = there

module _ (lossy_shows : ℕ → ℕ) (next k : ℕ) (c : Captured) (old : k < next) where
  pub in_hand_changed : (e : Event) (w : Window) → NumbersFrom next e → IsInHand (changed lossy_shows e w) k c → IsInHand (Some w) k c
  in_hand_changed (Start desk now) w from job = job
  in_hand_changed (Paint r numbers now) w from job = job
  in_hand_changed (Capture plan first) w from job = elim (has-append w.jobs (jobs_of w.desk (region_taken w) first plan) k c job) [
    | inl there ↦ there
    | inr fresh ↦ absurd (omega (arith, new_numbers w (region_taken w) first plan k c fresh))
  ]
  in_hand_changed (File i capture now) w from job = which (filing_of (capture_of w.jobs i) capture) job
    where
      which : (f : Filing) → HasJob (filed_as f i now w).jobs k c → HasJob w.jobs k c
      which Late there = there
      which Foreign there = there
      which Filed there = has-with_result w.jobs i k c (has-ready now (with_result w.jobs i) w k c there)
  in_hand_changed (Write false) w from job = job
  in_hand_changed (Write true) w from job = which w.packets job
    where
      which : (packets : List Packet) → HasJob (written_front lossy_shows packets w).jobs k c → HasJob w.jobs k c
      which [] there = there
      which (p ∷ packets) there = there
  in_hand_changed (Acknowledge i negative now) w from job = which (rect_sent w.unacknowledged i) negative job
    where
      which : (o : Option Rectangle) (b : Bool) → HasJob (acknowledged_as o i b now w).jobs k c → HasJob w.jobs k c
      which None b there = there
      which (Some r) true there = there
      which (Some r) false there = there
  in_hand_changed MapWindow w from job = job
  in_hand_changed (UnmapWindow now) w from job = which w.mapped job
    where
      which : (b : Bool) → HasJob (cond b (record (given_back now w) { mapped = false }) w).jobs k c → HasJob w.jobs k c
      which true there = absurd there
      which false there = there
  in_hand_changed (Recall now) w from job = absurd job
  in_hand_changed (Resize wide high now) w from job = absurd job
  in_hand_changed (BufferRefresh now) w from job = job
  in_hand_changed Close w from job = absurd job

  pub in_hand_step : (o : Option Window) (e : Event) → NumbersFrom next e → IsInHand (step lossy_shows o e) k c → IsInHand o k c
  in_hand_step (Some w) e from job = in_hand_changed e w from job
  in_hand_step None (Start desk now) from job = job
  in_hand_step None (Paint r numbers now) from job = job
  in_hand_step None (Capture plan first) from job = job
  in_hand_step None (File i capture now) from job = job
  in_hand_step None (Write wholly) from job = job
  in_hand_step None (Acknowledge i negative now) from job = job
  in_hand_step None MapWindow from job = job
  in_hand_step None (UnmapWindow now) from job = job
  in_hand_step None (Recall now) from job = job
  in_hand_step None (Resize wide high now) from job = job
  in_hand_step None (BufferRefresh now) from job = job
  in_hand_step None Close from job = job

  pub in_hand_run : (o : Option Window) (events : List Event) → AllNumberFrom next events → IsInHand (run lossy_shows o events) k c → IsInHand o k c
  in_hand_run o [] from job = job
  in_hand_run o (e ∷ events) from job = in_hand_step o e from.0 (in_hand_run (step lossy_shows o e) events from.1 job)

-- a number that is gone stays gone
pub gone_run : (lossy_shows : ℕ → ℕ) (next k : ℕ) (o : Option Window) (events : List Event) → k < next → AllNumberFrom next events → IsGone o k → IsGone (run lossy_shows o events) k
gone_run lossy_shows next k o events old from gone c job = gone c (in_hand_run lossy_shows next k c old o events from job)

-- of a number that is gone each result is late
no_capture : (jobs : List Job) (k : ℕ) → ((c : Captured) → HasJob jobs k c → ⊥) → capture_of jobs k ≡ None
no_capture [] k gone = refl
no_capture (j ∷ jobs) k gone = which (cases_Bool (nat_eq j.number k)) (no_capture jobs k (λ c job. gone c (inr job)))
  where
    which : (nat_eq j.number k ≡ true) ⊎ (nat_eq j.number k ≡ false) → capture_of jobs k ≡ None → cond (nat_eq j.number k) (Some j.capture) (capture_of jobs k) ≡ None
    which (inl same) rest = absurd (gone j.capture (inl (eqb-true j.number k same, refl)))
    which (inr other) rest = rw other rest

pub gone_late : (w : Window) (k : ℕ) (capture : Captured) → IsGone (Some w) k → filing_of (capture_of w.jobs k) capture ≡ Late
gone_late w k capture gone = rw (no_capture w.jobs k gone) refl
