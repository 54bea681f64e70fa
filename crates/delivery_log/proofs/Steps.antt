-- Each event keeps the agreement of a window and its log.
use Rattle.std.proofs.Common.{◌≡◌, ◌⊎◌, inl, inr, ℕ, Bool, true, false, not, ◌&&◌, ◌||◌, List, [], ◌∷◌, ◌++◌, map, cond, refl, sym, ◌∙◌, subst, arith, append-nil}
use Rattle.std.specs.Prelude.{nat_eq}
use Rattle.std.specs.List.{list_any}
use Rattle.std.proofs.lemmas.Bool.{cases_Bool, and_from, or_right}
use Rattle.std.proofs.lemmas.Bool.Decides.{nat_tests}
use Rattle.std.proofs.lemmas.List.{map-append}
use Rattle.std.proofs.lemmas.List.Elements.{All-nil}
use Rattle.xp_base.specs.Points.{Rectangle, is_in, is_within, survives, clip}
use Rattle.delivery_model.specs.Grids.{Grid, has}
use Rattle.delivery_model.specs.Window.{Draw, Packet, NewWindow, WindowResized, Draws, Window}
use Rattle.delivery_model.specs.Events.{jobs_relieve, started, damaged, given_back, unmapped, resized, written_front}
use Rattle.delivery_model.specs.Invariant.{draws_of}
use Rattle.delivery_model.proofs.Grids.{has-points_within}
use Rattle.delivery_model.proofs.Numberings.{numbers-with_relief}
use Rattle.delivery_log.specs.Log.{Entry, Fresh, Kept, Damaged, DrawWritten, writings, clipped}
use Rattle.delivery_log.specs.Stale.{is_origin, is_capture, is_queueing, queued_draws, written_draws}
use Rattle.delivery_log.specs.Traces.{written_at, waiting_at, hand_at, seen_at, PointAgrees}
use Rattle.delivery_log.specs.Agreement.{captured_jobs, queued_jobs, Agrees}
use Rattle.delivery_log.proofs.Traces.{agrees_origin, agrees_cancelled, agrees_written}
use Rattle.delivery_log.proofs.Lists.{hand_numbers, written-append, jobs_stay, jobs_cancelled, draws_stay, draws_written, later_on, queued_there}
use Rattle.delivery_log.proofs.Seeing.{AllUnqueued, AllUncaptured, unqueued_all, all_numbers, uncaptured_all, written_stay, waiting_stay, hands_stay, written_none, waiting_none, hands_none, hands_before, hands_relieve, waiting_resized}

abbrev pub sequences_of : List Packet → List ℕ
sequences_of packets = map (λ (d : Draw). d.sequence) (draws_of packets)

-- the point and the log stay, where the entries are no origin of it, capture nothing and queue or write no draw
stays_at : (x y : ℕ) (log more : List Entry) (v w : Window) → list_any (is_origin x y) more ≡ false → captured_jobs more ≡ [] → queued_draws more ≡ [] → written_draws more ≡ []
    → map (waiting_at x y log) (draws_of v.packets) ≡ map (waiting_at x y log) (draws_of w.packets) → v.jobs ≡ w.jobs → has v.pending x y ≡ has w.pending x y → has v.lossy x y ≡ has w.lossy x y
    → PointAgrees (seen_at x y log w) → PointAgrees (seen_at x y (log ++ more) v)
stays_at x y log more v w quiet none unqueued unwritten waiting jobs pending lossy agrees = rw (
  written-append log more,
  unwritten,
  append-nil (written_draws log),
  written_stay x y log more quiet old (written_draws log) (all_numbers (λ (s : ℕ). list_any (is_queueing (λ k. true) s) more ≡ false) (written_draws log) (unqueued_all more unqueued)),
  waiting_stay x y log more quiet old (draws_of v.packets) (all_numbers (λ (s : ℕ). list_any (is_queueing (λ k. true) s) more ≡ false) (sequences_of v.packets) (unqueued_all more unqueued)),
  waiting,
  jobs,
  hands_stay x y log more quiet old w.jobs (all_numbers (λ (k : ℕ). list_any (is_capture k) more ≡ false) (hand_numbers w.jobs) (uncaptured_all more none)),
  pending,
  lossy,
)
    agrees
  where
    old : AllUncaptured more (queued_jobs log)
    old = all_numbers (λ (k : ℕ). list_any (is_capture k) more ≡ false) (queued_jobs log) (uncaptured_all more none)

-- the point's origin is now, and it is pending
origin_at : (x y : ℕ) (log : List Entry) (e : Entry) (v : Window) → is_origin x y e ≡ true → has v.pending x y ≡ true → PointAgrees (seen_at x y (log ++ e ∷ []) v)
origin_at x y log e v is pending = rw pending (agrees_origin _ _ _ _ (written_none x y log e is (written_draws (log ++ e ∷ []))) (waiting_none x y log e is (draws_of v.packets)) (hands_none x y log e is v.jobs) (hands_before x y log e is v.jobs))

pub agrees_started : (next : ℕ) (desk : Grid) (now : ℕ) → Agrees next (Fresh ∷ []) (started desk now)
agrees_started next desk now = record {
  jobs = record { captured = omega arith; before = []; in_hand = refl; low = 0; queued = omega arith; unqueued = omega arith; were_captured = All-nil _ };
  draws = record { waiting = refl; sequences = omega arith };
  later = refl;
  points = λ x y within. origin_at x y [] Fresh (started desk now) refl (has-points_within desk.wide desk.high (λ x y. true) x y within);
}

-- nothing that the agreement speaks of changes
pub agrees_same : (next : ℕ) (log : List Entry) (v w : Window) → v.desk ≡ w.desk → v.packets ≡ w.packets → v.jobs ≡ w.jobs → v.pending ≡ w.pending → v.lossy ≡ w.lossy → v.next_sequence ≡ w.next_sequence
    → Agrees next log w → Agrees next (log ++ []) v
agrees_same next log v w desk packets jobs pending lossy sequence agrees = record {
  jobs = jobs_stay next log [] v w refl refl jobs agrees.jobs;
  draws = draws_stay log [] v w refl refl (rw packets refl) sequence agrees.draws;
  later = later_on [] log [] agrees.later refl;
  points = λ x y within. stays_at x y log [] v w refl refl refl refl (rw packets refl) jobs (rw pending refl) (rw lossy refl) (agrees.points x y (rw desk at within));
}

-- damage of a rectangle, over a desktop that may have new numbers: its points are pending, and their origin is now
module _ (next : ℕ) (log : List Entry) (r : Rectangle) (now : ℕ) (v w : Window) (wide : v.desk.wide ≡ w.desk.wide) (high : v.desk.high ≡ w.desk.high) (packets : v.packets ≡ w.packets) (jobs : v.jobs ≡ w.jobs)
    (pending : v.pending ≡ w.pending) (lossy : v.lossy ≡ w.lossy) (sequence : v.next_sequence ≡ w.next_sequence) (agrees : Agrees next log w) where
  pends : (x y : ℕ) → is_within w.desk.wide w.desk.high x y ≡ true → has (damaged r now v).pending x y ≡ (has w.pending x y || is_in r x y)
  pends x y within = has-points_within v.desk.wide v.desk.high (λ x y. has v.pending x y || is_in r x y) x y (rw (wide, high) within) ∙ (rw pending refl)

  pub damaged_at : (x y : ℕ) (more : List Entry) → is_within w.desk.wide w.desk.high x y ≡ true → is_in r x y ≡ false → list_any (is_origin x y) more ≡ false → captured_jobs more ≡ [] → queued_draws more ≡ [] → written_draws more ≡ []
      → PointAgrees (seen_at x y (log ++ more) (damaged r now v))
  damaged_at x y more within outside quiet none unqueued unwritten = stays_at x y log more (damaged r now v) w quiet none unqueued unwritten (rw packets refl) jobs
      (pends x y within ∙ (rw outside (or_none (has w.pending x y)))) (rw lossy refl) (agrees.points x y within)
    where
      or_none : (b : Bool) → (b || false) ≡ b
      or_none true = refl
      or_none false = refl

  pub agrees_damaged : (c : Rectangle) → ((x y : ℕ) → is_within w.desk.wide w.desk.high x y ≡ true → is_in c x y ≡ is_in r x y) → Agrees next (log ++ Damaged c ∷ []) (damaged r now v)
  agrees_damaged c same = record {
    jobs = jobs_stay next log (Damaged c ∷ []) (damaged r now v) w refl refl jobs agrees.jobs;
    draws = draws_stay log (Damaged c ∷ []) (damaged r now v) w refl refl (rw packets refl) sequence agrees.draws;
    later = later_on [] log (Damaged c ∷ []) agrees.later refl;
    points = λ x y within. which x y (rw (← wide, ← high) within) (cases_Bool (is_in r x y));
  }
    where
      which : (x y : ℕ) → is_within w.desk.wide w.desk.high x y ≡ true → (is_in r x y ≡ true) ⊎ (is_in r x y ≡ false) → PointAgrees (seen_at x y (log ++ Damaged c ∷ []) (damaged r now v))
      which x y within (inl is) = origin_at x y log (Damaged c) (damaged r now v) (same x y within ∙ is) (pends x y within ∙ or_right (has w.pending x y) (is_in r x y) is)
      which x y within (inr isnt) = damaged_at x y (Damaged c ∷ []) within isnt (rw (same x y within, isnt) refl) refl refl refl

  -- where nothing of it is in the window
  pub agrees_undamaged : ((x y : ℕ) → is_within w.desk.wide w.desk.high x y ≡ true → is_in r x y ≡ false) → Agrees next (log ++ []) (damaged r now v)
  agrees_undamaged outside = record {
    jobs = jobs_stay next log [] (damaged r now v) w refl refl jobs agrees.jobs;
    draws = draws_stay log [] (damaged r now v) w refl refl (rw packets refl) sequence agrees.draws;
    later = later_on [] log [] agrees.later refl;
    points = λ x y within. let inside : is_within w.desk.wide w.desk.high x y ≡ true = rw (← wide, ← high) within in damaged_at x y [] inside (outside x y inside) refl refl refl refl;
  }

-- what of a rectangle is in the window
clip_in : (w h : ℕ) (r : Rectangle) (x y : ℕ) → is_within w h x y ≡ true → is_in (clip w h r) x y ≡ is_in r x y
clip_in w h r x y within = grind (arith, nat_tests)

clip_none : (w h : ℕ) (r : Rectangle) (x y : ℕ) → is_within w h x y ≡ true → (nat_eq (clip w h r).w 0 || nat_eq (clip w h r).h 0) ≡ true → is_in r x y ≡ false
clip_none w h r x y within empty = grind (arith, nat_tests)

pub agrees_clipped : (next : ℕ) (log : List Entry) (r : Rectangle) (now : ℕ) (v w : Window) → v.desk.wide ≡ w.desk.wide → v.desk.high ≡ w.desk.high → v.packets ≡ w.packets → v.jobs ≡ w.jobs
    → v.pending ≡ w.pending → v.lossy ≡ w.lossy → v.next_sequence ≡ w.next_sequence → Agrees next log w → Agrees next (log ++ clipped (clip w.desk.wide w.desk.high r)) (damaged r now v)
agrees_clipped next log r now v w wide high packets jobs pending lossy sequence agrees = which (cases_Bool (nat_eq c.w 0 || nat_eq c.h 0))
  where
    c : Rectangle
    c = clip w.desk.wide w.desk.high r

    which : ((nat_eq c.w 0 || nat_eq c.h 0) ≡ true) ⊎ ((nat_eq c.w 0 || nat_eq c.h 0) ≡ false) → Agrees next (log ++ cond (nat_eq c.w 0 || nat_eq c.h 0) [] (Damaged c ∷ [])) (damaged r now v)
    which (inl empty) = rw empty (agrees_undamaged next log r now v w wide high packets jobs pending lossy sequence agrees (λ x y within. clip_none w.desk.wide w.desk.high r x y within empty))
    which (inr some) = rw some (agrees_damaged next log r now v w wide high packets jobs pending lossy sequence agrees c (λ x y within. clip_in w.desk.wide w.desk.high r x y within))

-- the jobs in hand are given back
pub agrees_given_back : (next : ℕ) (log : List Entry) (now : ℕ) (w : Window) → Agrees next log w → Agrees next (log ++ []) (given_back now w)
agrees_given_back next log now w agrees = record {
  jobs = jobs_cancelled next log [] (given_back now w) w refl refl refl agrees.jobs;
  draws = draws_stay log [] (given_back now w) w refl refl refl refl agrees.draws;
  later = later_on [] log [] agrees.later refl;
  points = λ x y within. rw (append-nil log, has-points_within w.desk.wide w.desk.high (λ x y. has w.pending x y || jobs_relieve w.jobs x y) x y within, ← hands_relieve x y log w.jobs)
      (agrees_cancelled _ _ (map (hand_at x y log) w.jobs) (has w.pending x y) (has w.lossy x y) (agrees.points x y within));
}

pub agrees_unmapped : (next : ℕ) (log : List Entry) (now : ℕ) (w : Window) → Agrees next log w → Agrees next (log ++ []) (unmapped now w)
agrees_unmapped next log now w agrees = which w.mapped
  where
    which : (b : Bool) → Agrees next (log ++ []) (cond b (record (given_back now w) { mapped = false }) w)
    which true = rw (← append-nil (log ++ [])) (agrees_same next (log ++ []) (record (given_back now w) { mapped = false }) (given_back now w) refl refl refl refl refl refl (agrees_given_back next log now w agrees))
    which false = agrees_same next log w w refl refl refl refl refl refl agrees

-- a resize
pub agrees_resized : (next : ℕ) (log : List Entry) (w h now : ℕ) (old : Window) → Agrees next log old → Agrees next (log ++ Kept old.desk.wide old.desk.high ∷ []) (resized w h now old)
agrees_resized next log w h now old agrees = record {
  jobs = jobs_cancelled next log (Kept old.desk.wide old.desk.high ∷ []) (resized w h now old) old refl refl refl agrees.jobs;
  draws = draws_stay log (Kept old.desk.wide old.desk.high ∷ []) (resized w h now old) old refl refl (numbers-with_relief w h both old.packets) refl agrees.draws;
  later = later_on [] log (Kept old.desk.wide old.desk.high ∷ []) agrees.later refl;
  points = λ x y within. which x y within (cases_Bool (is_within old.desk.wide old.desk.high x y));
}
  where
    both : ℕ → ℕ → Bool
    both = survives old.desk.wide old.desk.high w h

    pending : (x y : ℕ) → is_within w h x y ≡ true → has (resized w h now old).pending x y ≡ (not (both x y) || (has old.pending x y || jobs_relieve old.jobs x y))
    pending x y within = has-points_within w h (λ x y. not (both x y) || (has old.pending x y || jobs_relieve old.jobs x y)) x y within

    lossy : (x y : ℕ) → is_within w h x y ≡ true → has (resized w h now old).lossy x y ≡ (has old.lossy x y && both x y)
    lossy x y within = has-points_within w h (λ x y. has old.lossy x y && both x y) x y within

    and_all : (b : Bool) → (b && true) ≡ b
    and_all true = refl
    and_all false = refl

    which : (x y : ℕ) → is_within w h x y ≡ true → (is_within old.desk.wide old.desk.high x y ≡ true) ⊎ (is_within old.desk.wide old.desk.high x y ≡ false)
        → PointAgrees (seen_at x y (log ++ Kept old.desk.wide old.desk.high ∷ []) (resized w h now old))
    which x y within (inr grown) = origin_at x y log (Kept old.desk.wide old.desk.high) (resized w h now old) (rw grown refl) (pending x y within ∙ (rw grown refl))
    which x y within (inl inside) =
        let kept : both x y ≡ true = and_from _ _ inside within in
        stays_at x y log (Kept old.desk.wide old.desk.high ∷ []) (resized w h now old) (given_back now old) (rw inside refl) refl refl refl (waiting_resized x y log w h both old.packets within kept) refl
        (pending x y within ∙ ((rw kept refl) ∙ sym (has-points_within old.desk.wide old.desk.high (λ x y. has old.pending x y || jobs_relieve old.jobs x y) x y inside)))
        (lossy x y within ∙ ((rw kept refl) ∙ and_all (has old.lossy x y)))
        (rw (← append-nil log) ((agrees_given_back next log now old agrees).points x y inside))

-- packets that are not draws play no part
agrees_unseen : (next : ℕ) (log : List Entry) (v w : Window) → v.desk ≡ w.desk → draws_of v.packets ≡ draws_of w.packets → v.jobs ≡ w.jobs → v.pending ≡ w.pending → v.lossy ≡ w.lossy → v.next_sequence ≡ w.next_sequence
    → Agrees next log w → Agrees next (log ++ []) v
agrees_unseen next log v w desk draws jobs pending lossy sequence agrees = record {
  jobs = jobs_stay next log [] v w refl refl jobs agrees.jobs;
  draws = draws_stay log [] v w refl refl (rw draws refl) sequence agrees.draws;
  later = later_on [] log [] agrees.later refl;
  points = λ x y within. stays_at x y log [] v w refl refl refl refl (rw draws refl) jobs (rw pending refl) (rw lossy refl) (agrees.points x y (rw desk at within));
}

-- the front packet is written
pub agrees_front : (next : ℕ) (log : List Entry) (lossy_shows : ℕ → ℕ) (packets : List Packet) (w : Window) → w.packets ≡ packets → Agrees next log w → Agrees next (log ++ writings packets) (written_front lossy_shows packets w)
agrees_front next log lossy_shows [] w is agrees = agrees_same next log w w refl refl refl refl refl refl agrees
agrees_front next log lossy_shows (NewWindow a b ∷ packets) w is agrees = agrees_unseen next log (written_front lossy_shows (NewWindow a b ∷ packets) w) w refl (rw is refl) refl refl refl refl agrees
agrees_front next log lossy_shows (WindowResized a b ∷ packets) w is agrees = agrees_unseen next log (written_front lossy_shows (WindowResized a b ∷ packets) w) w refl (rw is refl) refl refl refl refl agrees
agrees_front next log lossy_shows (Draws d ∷ packets) w is agrees = record {
  jobs = jobs_stay next log (DrawWritten d.sequence ∷ []) v w refl refl refl agrees.jobs;
  draws = draws_written log d packets v w is refl refl agrees.draws;
  later = later_on [] log (DrawWritten d.sequence ∷ []) agrees.later (rw (queued_there log (written_draws log) (sequences_of packets) d.sequence (agrees.draws.waiting ∙ (rw is refl))) refl);
  points = λ x y within. rw (
    written-append log (DrawWritten d.sequence ∷ []),
    map-append,
    written_stay x y log more refl old (written_draws log) (free (written_draws log)),
    written_stay x y log more refl old (d.sequence ∷ []) (free (d.sequence ∷ [])),
    waiting_stay x y log more refl old (draws_of packets) (free (sequences_of packets)),
    hands_stay x y log more refl old w.jobs (all_numbers (λ (k : ℕ). list_any (is_capture k) more ≡ false) (hand_numbers w.jobs) (λ k. refl)),
  )
      (agrees_written (map (written_at x y log) (written_draws log)) (waiting_at x y log d) (written_at x y log d.sequence) (map (waiting_at x y log) (draws_of packets)) (map (hand_at x y log) w.jobs) (has w.pending x y) (has w.lossy x y) refl refl
      (subst (λ (ps : List Packet). PointAgrees (record (seen_at x y log w) { waiting = map (waiting_at x y log) (draws_of ps) })) is (agrees.points x y within)));
}
  where
    v : Window
    v = written_front lossy_shows (Draws d ∷ packets) w

    more : List Entry
    more = DrawWritten d.sequence ∷ []

    old : AllUncaptured more (queued_jobs log)
    old = all_numbers (λ (k : ℕ). list_any (is_capture k) more ≡ false) (queued_jobs log) (λ k. refl)

    free : (ss : List ℕ) → AllUnqueued more ss
    free ss = all_numbers (λ (s : ℕ). list_any (is_queueing (λ k. true) s) more ≡ false) ss (λ s. refl)
