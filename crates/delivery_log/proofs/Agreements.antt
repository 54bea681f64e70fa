-- Every event keeps the agreement, and so does every list of events; where it stands, owed is stale.
use Rattle.std.proofs.Common.{◌≡◌, ◌⊎◌, inl, inr, ℕ, ◌≤◌, Bool, true, false, not, ◌&&◌, ◌||◌, List, [], ◌∷◌, ◌++◌, Option, Some, None, map, refl, ap, ◌∙◌, subst}
use Rattle.std.specs.List.{list_any}
use Rattle.std.proofs.lemmas.Bool.{cases_Bool}
use Rattle.std.proofs.lemmas.List.{map-append}
use Rattle.xp_base.specs.Points.{Rectangle, is_within, whole}
use Rattle.delivery_model.specs.Grids.{has}
use Rattle.delivery_model.specs.Window.{Draw, Window}
use Rattle.delivery_model.specs.Events.{painted, rect_sent, without_sent, counted, acknowledged_as, filing_of, capture_of, Event, Start, Paint, Capture, File, Write, Acknowledge, MapWindow, UnmapWindow, Recall, Resize, BufferRefresh, Close, changed, step, run}
use Rattle.delivery_model.specs.Plans.{IsEvent}
use Rattle.delivery_model.specs.Numbers.{NumbersFrom, next_after}
use Rattle.delivery_model.specs.Kept.{IsKept}
use Rattle.delivery_model.specs.Laws.{KeptWhereThere}
use Rattle.delivery_model.specs.Owed.{owes}
use Rattle.delivery_model.specs.Events.{jobs_relieve}
use Rattle.delivery_model.specs.Invariant.{draws_of}
use Rattle.delivery_model.proofs.Runs.{kept_step}
use Rattle.delivery_model.proofs.Numberings.{rise_later}
use Rattle.delivery_log.specs.Log.{Entry, acknowledgements, entries, log_after, log_of}
use Rattle.delivery_log.specs.Stale.{are_repairing, is_lossy_over, is_stale, is_stale_queued, written_draws, queued_draws}
use Rattle.delivery_log.specs.Traces.{Trace, written_at, waiting_at, seen_at, any_lossy, is_repaired}
use Rattle.delivery_log.specs.Agreement.{captured_jobs, Agrees, AgreesWhereThere}
use Rattle.delivery_log.specs.Laws.{AreLogged}
use Rattle.delivery_log.proofs.Traces.{owed_unless_repaired}
use Rattle.delivery_log.proofs.Lists.{record_numbers, hand_numbers}
use Rattle.delivery_log.proofs.Seeing.{hands_relieve, waiting_relieve}
use Rattle.delivery_log.proofs.Steps.{agrees_started, agrees_same, agrees_damaged, agrees_clipped, agrees_given_back, agrees_unmapped, agrees_resized, agrees_front}
use Rattle.delivery_log.proofs.Captures.{agrees_capture, agrees_filed}

agrees_acknowledged : (next : ℕ) (log : List Entry) (o : Option Rectangle) (k : ℕ) (negative : Bool) (now : ℕ) (w : Window) → Agrees next log w → Agrees next (log ++ acknowledgements o negative w) (acknowledged_as o k negative now w)
agrees_acknowledged next log None k negative now w agrees = agrees_same next log w w refl refl refl refl refl refl agrees
agrees_acknowledged next log (Some r) k false now w agrees = agrees_same next log (counted (without_sent w.unacknowledged k) w) w refl refl refl refl refl refl agrees
agrees_acknowledged next log (Some r) k true now w agrees = agrees_clipped next log r now (counted (without_sent w.unacknowledged k) w) w refl refl refl refl refl refl refl agrees

pub agrees_changed : (lossy_shows : ℕ → ℕ) (next : ℕ) (log : List Entry) (e : Event) (w : Window) → IsEvent (Some w) e → NumbersFrom next e → IsKept w → Agrees next log w
    → AgreesWhereThere (next_after next e) (log ++ entries e w) (changed lossy_shows e w)
agrees_changed lossy_shows next log (Start desk now) w event from kept agrees = agrees_same next log w w refl refl refl refl refl refl agrees
agrees_changed lossy_shows next log (Paint r numbers now) w event from kept agrees = agrees_damaged next log r now (record w { desk = painted r numbers w.desk }) w refl refl refl refl refl refl refl agrees r (λ x y within. refl)
agrees_changed lossy_shows next log (Capture plan first) w event from kept agrees = agrees_capture next log plan first w from event agrees
agrees_changed lossy_shows next log (File k capture now) w event from kept agrees = agrees_filed next now (filing_of (capture_of w.jobs k) capture) k log w kept agrees
agrees_changed lossy_shows next log (Write true) w event from kept agrees = agrees_front next log lossy_shows w.packets w refl agrees
agrees_changed lossy_shows next log (Write false) w event from kept agrees = agrees_same next log w w refl refl refl refl refl refl agrees
agrees_changed lossy_shows next log (Acknowledge k negative now) w event from kept agrees = agrees_acknowledged next log (rect_sent w.unacknowledged k) k negative now w agrees
agrees_changed lossy_shows next log MapWindow w event from kept agrees = agrees_same next log (record w { mapped = true }) w refl refl refl refl refl refl agrees
agrees_changed lossy_shows next log (UnmapWindow now) w event from kept agrees = agrees_unmapped next log now w agrees
agrees_changed lossy_shows next log (Recall now) w event from kept agrees = agrees_given_back next log now w agrees
agrees_changed lossy_shows next log (Resize wide high now) w event from kept agrees = agrees_resized next log wide high now w agrees
agrees_changed lossy_shows next log (BufferRefresh now) w event from kept agrees =
    agrees_damaged next log (whole w.desk.wide w.desk.high) now w w refl refl refl refl refl refl refl agrees (whole w.desk.wide w.desk.high) (λ x y within. refl)
agrees_changed lossy_shows next log Close w event from kept agrees = tt

pub agrees_step : (lossy_shows : ℕ → ℕ) (next : ℕ) (log : List Entry) (o : Option Window) (e : Event) → IsEvent o e → NumbersFrom next e → KeptWhereThere o → AgreesWhereThere next log o
    → AgreesWhereThere (next_after next e) (log_after log o e) (step lossy_shows o e)
agrees_step lossy_shows next log (Some w) e event from kept agrees = agrees_changed lossy_shows next log e w event from kept agrees
agrees_step lossy_shows next log None (Start desk now) event from kept agrees = agrees_started next desk now
agrees_step lossy_shows next log None (Paint r numbers now) event from kept agrees = tt
agrees_step lossy_shows next log None (Capture plan first) event from kept agrees = tt
agrees_step lossy_shows next log None (File k capture now) event from kept agrees = tt
agrees_step lossy_shows next log None (Write wholly) event from kept agrees = tt
agrees_step lossy_shows next log None (Acknowledge k negative now) event from kept agrees = tt
agrees_step lossy_shows next log None MapWindow event from kept agrees = tt
agrees_step lossy_shows next log None (UnmapWindow now) event from kept agrees = tt
agrees_step lossy_shows next log None (Recall now) event from kept agrees = tt
agrees_step lossy_shows next log None (Resize wide high now) event from kept agrees = tt
agrees_step lossy_shows next log None (BufferRefresh now) event from kept agrees = tt
agrees_step lossy_shows next log None Close event from kept agrees = tt

-- some next job number stands at the end
abbrev Stands : List Entry → Option Window → Type 0
Stands log o = (next : ℕ) × AgreesWhereThere next log o

agrees_run : (lossy_shows : ℕ → ℕ) (next : ℕ) (log : List Entry) (o : Option Window) (events : List Event) → AreLogged lossy_shows next o events → KeptWhereThere o → AgreesWhereThere next log o
    → Stands (log_of lossy_shows log o events) (run lossy_shows o events)
agrees_run lossy_shows next log o [] are kept agrees = (next, agrees)
agrees_run lossy_shows next log o (e ∷ events) are kept agrees =
    agrees_run lossy_shows (next_after next e) (log_after log o e) (step lossy_shows o e) events are.1.1 (kept_step lossy_shows o e are.0 kept) (agrees_step lossy_shows next log o e are.0 are.1.0 kept agrees)

-- what the log says of draws is what their traces say
lossy_traces : (x y : ℕ) (log : List Entry) (draws : List ℕ) → list_any (is_lossy_over x y log) draws ≡ any_lossy (map (written_at x y log) draws)
lossy_traces x y log [] = refl
lossy_traces x y log (s ∷ draws) = ap (λ (b : Bool). is_lossy_over x y log s || b) (lossy_traces x y log draws)

repairing_traces : (x y : ℕ) (log : List Entry) (draws : List ℕ) → are_repairing x y log draws ≡ is_repaired (map (written_at x y log) draws)
repairing_traces x y log [] = refl
repairing_traces x y log (s ∷ draws) = rw (lossy_traces x y log draws, repairing_traces x y log draws) refl

pub owed_is_stale : (next : ℕ) (log : List Entry) (w : Window) → Agrees next log w → (x y : ℕ) → owes (Some w) x y ≡ is_stale w.desk log x y
owed_is_stale next log w agrees x y = which (cases_Bool (is_within w.desk.wide w.desk.high x y))
  where
    which : (is_within w.desk.wide w.desk.high x y ≡ true) ⊎ (is_within w.desk.wide w.desk.high x y ≡ false) → owes (Some w) x y ≡ is_stale w.desk log x y
    which (inl within) = rw (within, repairing_traces x y log (written_draws log), ← hands_relieve x y log w.jobs, ← waiting_relieve x y log w.packets) (owed_unless_repaired (seen_at x y log w) (agrees.points x y within))
    which (inr outside) = rw outside refl

pub run_owed_is_stale : (lossy_shows : ℕ → ℕ) (next : ℕ) (events : List Event) → AreLogged lossy_shows next None events → (w : Window) → run lossy_shows None events ≡ Some w
    → (x y : ℕ) → owes (Some w) x y ≡ is_stale w.desk (log_of lossy_shows [] None events) x y
run_owed_is_stale lossy_shows next events are w is x y =
    let stands = agrees_run lossy_shows next [] None events are tt tt in
    owed_is_stale stands.0 (log_of lossy_shows [] None events) w (subst (λ (o : Option Window). AgreesWhereThere stands.0 (log_of lossy_shows [] None events) o) is stands.1) x y

-- once all waiting draws are written, what is still stale is pending, in the relief of a job in hand, or lossy
module _ (x y : ℕ) (log : List Entry) where
  abbrev as_written : List Draw → List Trace
  as_written ds = map (written_at x y log) (map (λ (d : Draw). d.sequence) ds)

  same_lossy : (ts : List Trace) (ds : List Draw) → any_lossy (ts ++ as_written ds) ≡ any_lossy (ts ++ map (waiting_at x y log) ds)
  same_lossy [] [] = refl
  same_lossy [] (d ∷ ds) = ap (λ (b : Bool). is_lossy_over x y log d.sequence || b) (same_lossy [] ds)
  same_lossy (t ∷ ts) ds = ap (λ (b : Bool). t.lossy || b) (same_lossy ts ds)

  same_repaired : (ts : List Trace) (ds : List Draw) → is_repaired (ts ++ as_written ds) ≡ is_repaired (ts ++ map (waiting_at x y log) ds)
  same_repaired [] [] = refl
  same_repaired [] (d ∷ ds) = rw (same_lossy [] ds, same_repaired [] ds) refl
  same_repaired (t ∷ ts) ds = rw (same_lossy ts ds, same_repaired ts ds) refl

pub waits_where_stale_queued : (next : ℕ) (log : List Entry) (w : Window) → Agrees next log w → (x y : ℕ)
    → is_stale_queued w.desk log x y ≡ (is_within w.desk.wide w.desk.high x y && ((has w.pending x y || jobs_relieve w.jobs x y) || has w.lossy x y))
waits_where_stale_queued next log w agrees x y = which (cases_Bool (is_within w.desk.wide w.desk.high x y))
  where
    all : are_repairing x y log (queued_draws log) ≡ is_repaired (map (written_at x y log) (written_draws log) ++ map (waiting_at x y log) (draws_of w.packets))
    all = repairing_traces x y log (queued_draws log)
        ∙ (ap (λ ss. is_repaired (map (written_at x y log) ss)) agrees.draws.waiting
        ∙ (ap is_repaired (map-append (written_at x y log) (written_draws log) (map (λ (d : Draw). d.sequence) (draws_of w.packets)))
        ∙ same_repaired x y log (map (written_at x y log) (written_draws log)) (draws_of w.packets)))

    not_not : (b c : Bool) → b ≡ not c → not b ≡ c
    not_not b true is = rw is refl
    not_not b false is = rw is refl

    which : (is_within w.desk.wide w.desk.high x y ≡ true) ⊎ (is_within w.desk.wide w.desk.high x y ≡ false)
        → is_stale_queued w.desk log x y ≡ (is_within w.desk.wide w.desk.high x y && ((has w.pending x y || jobs_relieve w.jobs x y) || has w.lossy x y))
    which (inl within) = rw (within, ← hands_relieve x y log w.jobs) (not_not _ _ (all ∙ (agrees.points x y within).queued))
    which (inr outside) = rw outside refl

-- other windows take numbers meanwhile
pub agreement_later : (next later : ℕ) (log : List Entry) (w : Window) → next ≤ later → Agrees next log w → Agrees later log w
agreement_later next later log w le agrees = record {
  jobs = record {
    captured = rise_later 0 next later (record_numbers (captured_jobs log)) le agrees.jobs.captured;
    before = agrees.jobs.before;
    in_hand = agrees.jobs.in_hand;
    low = agrees.jobs.low;
    queued = agrees.jobs.queued;
    unqueued = rise_later agrees.jobs.low next later (hand_numbers w.jobs) le agrees.jobs.unqueued;
    were_captured = agrees.jobs.were_captured;
  };
  draws = agrees.draws;
  later = agrees.later;
  points = agrees.points;
}
