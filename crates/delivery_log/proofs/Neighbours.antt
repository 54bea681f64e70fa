-- Statements that are near to the laws of the log and wrong. Each is refuted by a run or a log that is computed.
use Rattle.std.proofs.Common.{◌≡◌, ℕ, zero, suc, ◌<◌, ◌≤◌, Bool, true, false, not, ◌&&◌, ◌||◌, List, [], ◌∷◌, ◌++◌, Option, Some, None, length, refl, sym, ap, ◌∙◌, subst, arith}
use Rattle.std.specs.List.{list_any}
use Rattle.std.proofs.lemmas.Bool.{false≢true}
use Rattle.std.proofs.lemmas.Bool.Decides.{nat_tests}
use Rattle.std.proofs.lemmas.List.Elements.{All-nil, All-cons}
use Rattle.xp_base.specs.declared.coding.Coding.TheVariants as C
use Rattle.xp_base.specs.Points.{LiesIn, is_in, is_within}
use Rattle.delivery_model.specs.Grids.{Grid, each_point, has, number, number_in}
use Rattle.delivery_model.specs.Window.{Window}
use Rattle.delivery_model.specs.Events.{is_empty, Planned, region_taken, jobs_relieve, started, captured, written, resized, Event, Start, Paint, Capture, File, Write, MapWindow, Recall, Resize, step, run}
use Rattle.delivery_model.specs.Refusals.{is_clean}
use Rattle.delivery_model.specs.Plans.{IsCaptureOf, IsEvent, AreEvents}
use Rattle.delivery_model.specs.Numbers.{next_after}
use Rattle.delivery_model.specs.Owed.{owes}
use Rattle.delivery_model.specs.Laws.{KeptWhereThere}
use Rattle.delivery_model.proofs.Grids.{has-inside}
use Rattle.delivery_model.proofs.Runs.{kept_step, kept_run}
use Rattle.delivery_log.specs.Log.{Entry, Fresh, Kept, Damaged, JobCaptured, DrawQueued, DrawWritten, writings, log_after, log_of}
use Rattle.delivery_log.specs.Stale.{since_origin, is_covering, is_queueing, is_repair, is_stale, is_stale_queued, written_draws}
use Rattle.delivery_log.specs.Agreement.{Agrees, AgreesWhereThere}
use Rattle.delivery_log.specs.Laws.{AreLogged}
use Rattle.delivery_log.proofs.Agreements.{agrees_step}
use Rattle.delivery_log.proofs.Situations.{next_number, rect, exact, coarse, result, coarsely, black}

pub never : (m n : ℕ) → n < m → m ≤ n → ⊥
never m n less le = omega (arith, less, le)

-- whole windows captured by one rectangle are captures that may be
exact_plan : (wide high : ℕ) (w : Window) → w.desk.wide ≡ wide → w.desk.high ≡ high → is_clean w ≡ false → (region_taken w).wide ≡ wide → (region_taken w).high ≡ high → IsCaptureOf w (exact (rect 0 0 wide high) ∷ [])
exact_plan wide high w across down unclean region_across region_down = record {
  unclean = unclean;
  planned = record {
    within = All-cons (λ (p : Planned). LiesIn w.desk.wide w.desk.high p.rect) (exact (rect 0 0 wide high)) [] (record { across = omega (arith, across); down = omega (arith, down) }) (All-nil (λ (p : Planned). LiesIn w.desk.wide w.desk.high p.rect));
    apart = ((λ x y is. refl), tt);
    covers = λ x y is. inside x y (has-inside (region_taken w) x y is);
    lossy = All-cons (λ (p : Planned). p.coding ≡ C.Lossy → (x y : ℕ) → is_in p.rect x y ≡ true → has (region_taken w) x y ≡ true) (exact (rect 0 0 wide high)) [] (λ coded. absurd (cc coded))
        (All-nil (λ (p : Planned). p.coding ≡ C.Lossy → (x y : ℕ) → is_in p.rect x y ≡ true → has (region_taken w) x y ≡ true));
    refresh = λ empty. All-cons (λ (p : Planned). p.coding ≡ C.Exact) (exact (rect 0 0 wide high)) [] refl (All-nil (λ (p : Planned). p.coding ≡ C.Exact));
  };
}
  where
    inside : (x y : ℕ) → is_within (region_taken w).wide (region_taken w).high x y ≡ true → (is_in (rect 0 0 wide high) x y || false) ≡ true
    inside x y within = grind (arith, nat_tests, within, region_across, region_down)

-- of one point, by a lossy draw too
pub lossy_plan : (w : Window) → w.desk.wide ≡ 1 → w.desk.high ≡ 1 → is_clean w ≡ false → is_empty w.pending ≡ false → w.pending.wide ≡ 1 → w.pending.high ≡ 1 → has w.pending 0 0 ≡ true → IsCaptureOf w (coarse (rect 0 0 1 1) ∷ [])
lossy_plan w across down unclean some pending_across pending_down there = record {
  unclean = unclean;
  planned = record {
    within = All-cons (λ (p : Planned). LiesIn w.desk.wide w.desk.high p.rect) (coarse (rect 0 0 1 1)) [] (record { across = omega (arith, across); down = omega (arith, down) }) (All-nil (λ (p : Planned). LiesIn w.desk.wide w.desk.high p.rect));
    apart = ((λ x y is. refl), tt);
    covers = λ x y is. inside x y (has-inside w.pending x y (rw some at is));
    lossy = All-cons (λ (p : Planned). p.coding ≡ C.Lossy → (x y : ℕ) → is_in p.rect x y ≡ true → has (region_taken w) x y ≡ true) (coarse (rect 0 0 1 1)) [] (λ coded x y is. rw some (only x y is))
        (All-nil (λ (p : Planned). p.coding ≡ C.Lossy → (x y : ℕ) → is_in p.rect x y ≡ true → has (region_taken w) x y ≡ true));
    refresh = λ empty. absurd (false≢true (sym some ∙ empty));
  };
}
  where
    inside : (x y : ℕ) → is_within w.pending.wide w.pending.high x y ≡ true → (is_in (rect 0 0 1 1) x y || false) ≡ true
    inside x y within = grind (arith, nat_tests, within, pending_across, pending_down)

    only : (x y : ℕ) → is_in (rect 0 0 1 1) x y ≡ true → has w.pending x y ≡ true
    only zero zero is = there
    only zero (suc y) is = absurd (false≢true (grind (arith, nat_tests, is)))
    only (suc x) y is = absurd (false≢true (grind (arith, nat_tests, is)))

-- the window and the log at the end of a run, and the next job's number
abbrev pub window_or : Window → Option Window → Window
window_or w None = w
window_or w (Some v) = v

abbrev pub end_of : List Event → Window
end_of events = window_or (started (black 1 1) 0) (run next_number None events)

abbrev log_at : List Event → List Entry
log_at events = log_of next_number [] None events

abbrev next_of : ℕ → List Event → ℕ
next_of next [] = next
next_of next (e ∷ events) = next_of (next_after next e) events

agrees_at : (next : ℕ) (log : List Entry) (o : Option Window) (events : List Event) → AreLogged next_number next o events → KeptWhereThere o → AgreesWhereThere next log o
    → AgreesWhereThere (next_of next events) (log_of next_number log o events) (run next_number o events)
agrees_at next log o [] are kept agrees = agrees
agrees_at next log o (e ∷ events) are kept agrees =
    agrees_at (next_after next e) (log_after log o e) (step next_number o e) events are.1.1 (kept_step next_number o e are.0 kept) (agrees_step next_number next log o e are.0 are.1.0 kept agrees)

agrees_there : (events : List Event) → AreLogged next_number 1 None events → run next_number None events ≡ Some (end_of events) → Agrees (next_of 1 events) (log_at events) (end_of events)
agrees_there events are there = subst (λ (o : Option Window). AgreesWhereThere (next_of 1 events) (log_at events) o) there (agrees_at 1 [] None events are tt tt)

-- a window of one point that the client has: all of it is pending
abbrev pub pends : List Event
pends = Start (black 1 1) 0 ∷ Write true ∷ MapWindow ∷ []

pub pends_plan : IsCaptureOf (end_of pends) (exact (rect 0 0 1 1) ∷ [])
unfolding each_point has number number_in is_empty
pends_plan = exact_plan 1 1 (end_of pends) refl refl refl refl refl

pub pends_lossy_plan : IsCaptureOf (end_of pends) (coarse (rect 0 0 1 1) ∷ [])
unfolding each_point has number number_in is_empty
pends_lossy_plan = lossy_plan (end_of pends) refl refl refl refl refl refl refl

-- its job is in hand; its draw waits; it is written
abbrev pub in_hand : List Event
in_hand = Start (black 1 1) 0 ∷ Write true ∷ MapWindow ∷ Capture (exact (rect 0 0 1 1) ∷ []) 1 ∷ []

abbrev waits : List Event
waits = Start (black 1 1) 0 ∷ Write true ∷ MapWindow ∷ Capture (exact (rect 0 0 1 1) ∷ []) 1 ∷ File 1 (result (rect 0 0 1 1) (0 ∷ [])) 500 ∷ []

abbrev pub repaired : List Event
repaired = Start (black 1 1) 0 ∷ Write true ∷ MapWindow ∷ Capture (exact (rect 0 0 1 1) ∷ []) 1 ∷ File 1 (result (rect 0 0 1 1) (0 ∷ [])) 500 ∷ Write true ∷ []

-- a lossy draw is written
abbrev pub lossy : List Event
lossy = Start (black 1 1) 0 ∷ Write true ∷ MapWindow ∷ Capture (coarse (rect 0 0 1 1) ∷ []) 1 ∷ File 1 (coarsely (rect 0 0 1 1) (0 ∷ [])) 500 ∷ Write true ∷ []

in_hand_logged : AreLogged next_number 1 None in_hand
in_hand_logged = (tt, (tt, (tt, (tt, (tt, (tt, (pends_plan, (omega arith, tt))))))))

waits_logged : AreLogged next_number 1 None waits
waits_logged = (tt, (tt, (tt, (tt, (tt, (tt, (pends_plan, (omega arith, (tt, (tt, tt))))))))))

repaired_logged : AreLogged next_number 1 None repaired
repaired_logged = (tt, (tt, (tt, (tt, (tt, (tt, (pends_plan, (omega arith, (tt, (tt, (tt, (tt, tt))))))))))))

lossy_logged : AreLogged next_number 1 None lossy
lossy_logged = (tt, (tt, (tt, (tt, (tt, (tt, (pends_lossy_plan, (omega arith, (tt, (tt, (tt, (tt, tt))))))))))))

in_hand_agrees : Agrees 2 (log_at in_hand) (end_of in_hand)
in_hand_agrees = agrees_there in_hand in_hand_logged refl

waits_agrees : Agrees 2 (log_at waits) (end_of waits)
waits_agrees = agrees_there waits waits_logged refl

repaired_agrees : Agrees 2 (log_at repaired) (end_of repaired)
repaired_agrees = agrees_there repaired repaired_logged refl

lossy_agrees : Agrees 2 (log_at lossy) (end_of lossy)
lossy_agrees = agrees_there lossy lossy_logged refl

-- Beside `every_event_keeps_the_agreement`. Wrong: that captures need not number upwards
abbrev NumbersMayComeBack : Type 0
NumbersMayComeBack = (next : ℕ) (log : List Entry) (o : Option Window) (e : Event) → IsEvent o e → KeptWhereThere o → AgreesWhereThere next log o
    → AgreesWhereThere (next_after next e) (log_after log o e) (step next_number o e)

abbrev recalled : List Event
recalled = Start (black 1 1) 0 ∷ Write true ∷ MapWindow ∷ Capture (exact (rect 0 0 1 1) ∷ []) 1 ∷ Recall 0 ∷ []

recalled_plan : IsCaptureOf (end_of recalled) (exact (rect 0 0 1 1) ∷ [])
unfolding each_point has number number_in is_empty
recalled_plan = exact_plan 1 1 (end_of recalled) refl refl refl refl refl

recalled_agrees : Agrees 2 (log_at recalled) (end_of recalled)
recalled_agrees = agrees_there recalled (tt, (tt, (tt, (tt, (tt, (tt, (pends_plan, (omega arith, (tt, (tt, tt)))))))))) refl

recalled_kept : KeptWhereThere (Some (end_of recalled))
recalled_kept = kept_run next_number None recalled (tt, (tt, (tt, (pends_plan, (tt, tt))))) tt

not_back : NumbersMayComeBack → ⊥
not_back claim = twice (claim 2 (log_at recalled) (Some (end_of recalled)) (Capture (exact (rect 0 0 1 1) ∷ []) 1) recalled_plan recalled_kept recalled_agrees)
  where
    twice : Agrees 2 (log_at recalled ++ JobCaptured 1 (rect 0 0 1 1) C.Exact ∷ []) (captured (exact (rect 0 0 1 1) ∷ []) 1 (end_of recalled)) → ⊥
    twice agrees = never 2 1 (omega arith) agrees.jobs.captured.1.0

-- wrong: that a draw of which a part was taken counts as written
abbrev PartsAreWritten : Type 0
PartsAreWritten = (next : ℕ) (log : List Entry) (w : Window) → Agrees next log w → Agrees next (log ++ writings w.packets) (written next_number false w)

not_parts : PartsAreWritten → ⊥
unfolding each_point has number number_in is_empty
not_parts claim = twice_waiting (claim 2 (log_at waits) (end_of waits) waits_agrees).draws.waiting
  where
    twice_waiting : ◌≡◌ {A = List ℕ} (1 ∷ []) (1 ∷ 1 ∷ []) → ⊥
    twice_waiting is = absurd (cc (ap length is))

-- wrong: that a resize begins the window anew
abbrev ResizesAreFresh : Type 0
ResizesAreFresh = (next : ℕ) (log : List Entry) (wide high now : ℕ) (w : Window) → Agrees next log w → Agrees next (log ++ Fresh ∷ []) (resized wide high now w)

not_fresh : ResizesAreFresh → ⊥
unfolding each_point has number number_in is_empty
not_fresh claim = false≢true ((claim 2 (log_at repaired) 1 1 1000 (end_of repaired) repaired_agrees).points 0 0 refl).queued

-- Beside `agreement_waits`. Wrong: that the next number may fall
abbrev NumbersMayFall : Type 0
NumbersMayFall = (next earlier : ℕ) (log : List Entry) (w : Window) → earlier ≤ next → Agrees next log w → Agrees earlier log w

not_fall : NumbersMayFall → ⊥
not_fall claim = never 2 1 (omega arith) (claim 2 1 (log_at in_hand) (end_of in_hand) (omega arith) in_hand_agrees).jobs.captured.1

-- wrong: that another window's entries may stand in this window's log
abbrev OtherEntriesPass : Type 0
OtherEntriesPass = (next : ℕ) (log : List Entry) (e : Entry) (w : Window) → Agrees next log w → Agrees next (log ++ e ∷ []) w

not_others : OtherEntriesPass → ⊥
unfolding each_point has number number_in is_empty
not_others claim = false≢true ((claim 2 (log_at repaired) Fresh (end_of repaired) repaired_agrees).points 0 0 refl).queued

-- Beside `owed_is_stale`. Wrong: to read stale from what was queued in place of what was written. A draw that waits is owed and stale.
abbrev StaleFromQueued : Type 0
StaleFromQueued = (next : ℕ) (log : List Entry) (w : Window) → Agrees next log w → (x y : ℕ) → owes (Some w) x y ≡ is_stale_queued w.desk log x y

not_queued : StaleFromQueued → ⊥
unfolding each_point has number number_in is_empty
not_queued claim = false≢true (sym (claim 2 (log_at waits) (end_of waits) waits_agrees 0 0))

-- wrong: an origin that forgets that a resize keeps only what both sizes share. The point comes back owed, and would not be stale.
abbrev forget_kept : List Entry → List Entry
forget_kept [] = []
forget_kept (Fresh ∷ log) = Fresh ∷ forget_kept log
forget_kept (Kept w h ∷ log) = forget_kept log
forget_kept (Damaged r ∷ log) = Damaged r ∷ forget_kept log
forget_kept (JobCaptured k r coding ∷ log) = JobCaptured k r coding ∷ forget_kept log
forget_kept (DrawQueued k s ∷ log) = DrawQueued k s ∷ forget_kept log
forget_kept (DrawWritten s ∷ log) = DrawWritten s ∷ forget_kept log

abbrev KeptIsNoOrigin : Type 0
KeptIsNoOrigin = (next : ℕ) (log : List Entry) (w : Window) → Agrees next log w → (x y : ℕ) → owes (Some w) x y ≡ is_stale w.desk (forget_kept log) x y

-- a row of two, captured, written, and then resized to a row of one, and back
abbrev row_pends : List Event
row_pends = Start (black 2 1) 0 ∷ Write true ∷ MapWindow ∷ []

abbrev there_and_back : List Event
there_and_back = Start (black 2 1) 0 ∷ Write true ∷ MapWindow ∷ Capture (exact (rect 0 0 2 1) ∷ []) 1 ∷ File 1 (result (rect 0 0 2 1) (0 ∷ 0 ∷ [])) 500 ∷ Write true ∷ Resize 1 1 1000 ∷ Resize 2 1 1000 ∷ []

row_plan : IsCaptureOf (end_of row_pends) (exact (rect 0 0 2 1) ∷ [])
unfolding each_point has number number_in is_empty
row_plan = exact_plan 2 1 (end_of row_pends) refl refl refl refl refl

back_agrees : Agrees 2 (log_at there_and_back) (end_of there_and_back)
back_agrees = agrees_there there_and_back (tt, (tt, (tt, (tt, (tt, (tt, (row_plan, (omega arith, (tt, (tt, (tt, (tt, (tt, (tt, (tt, (tt, tt)))))))))))))))) refl

not_forgotten : KeptIsNoOrigin → ⊥
unfolding each_point has number number_in is_empty
not_forgotten claim = false≢true (sym (claim 2 (log_at there_and_back) (end_of there_and_back) back_agrees 1 0))

-- wrong: that an origin plays no part. What a job captured before a paint is no longer so.
abbrev OriginsPlayNoPart : Type 0
OriginsPlayNoPart = (next : ℕ) (log : List Entry) (w : Window) → Agrees next log w → (x y : ℕ)
    → owes (Some w) x y ≡ (is_within w.desk.wide w.desk.high x y && not (list_any (λ (s : ℕ). list_any (is_queueing (λ k. list_any (is_covering x y C.Exact k) log) s) log) (written_draws log)))

abbrev painted_meanwhile : List Event
painted_meanwhile = Start (black 1 1) 0 ∷ Write true ∷ MapWindow ∷ Capture (exact (rect 0 0 1 1) ∷ []) 1 ∷ Paint (rect 0 0 1 1) (7 ∷ []) 100 ∷ File 1 (result (rect 0 0 1 1) (0 ∷ [])) 500 ∷ Write true ∷ []

meanwhile_agrees : Agrees 2 (log_at painted_meanwhile) (end_of painted_meanwhile)
meanwhile_agrees = agrees_there painted_meanwhile (tt, (tt, (tt, (tt, (tt, (tt, (pends_plan, (omega arith, (tt, (tt, (tt, (tt, (tt, (tt, tt)))))))))))))) refl

not_without_origin : OriginsPlayNoPart → ⊥
unfolding each_point has number number_in is_empty
not_without_origin claim = false≢true (sym (claim 2 (log_at painted_meanwhile) (end_of painted_meanwhile) meanwhile_agrees 0 0))

-- wrong: that a lossy draw repairs
abbrev is_repair_of_any : ℕ → ℕ → List Entry → ℕ → Bool
is_repair_of_any x y log s = list_any (is_queueing (λ k. list_any (is_covering x y C.Exact k) (since_origin x y log) || list_any (is_covering x y C.Lossy k) (since_origin x y log)) s) log

abbrev LossyRepairs : Type 0
LossyRepairs = (next : ℕ) (log : List Entry) (w : Window) → Agrees next log w → (x y : ℕ)
    → owes (Some w) x y ≡ (is_within w.desk.wide w.desk.high x y && not (list_any (is_repair_of_any x y log) (written_draws log)))

not_lossy : LossyRepairs → ⊥
unfolding each_point has number number_in is_empty
not_lossy claim = false≢true (sym (claim 2 (log_at lossy) (end_of lossy) lossy_agrees 0 0))

-- wrong: to pass over a lossy draw behind an exact one. The client shows the lossy colour, so the point is stale. (In the log of what
-- happened to a window none stands there: that is part 5 of the agreement. So a log alone shows it.)
abbrev LossyIsPassedOver : Type 0
LossyIsPassedOver = (desk : Grid) (log : List Entry) (x y : ℕ) → is_stale desk log x y ≡ (is_within desk.wide desk.high x y && not (list_any (is_repair x y log) (written_draws log)))

abbrev lossy_behind : List Entry
lossy_behind = Fresh ∷ JobCaptured 1 (rect 0 0 1 1) C.Exact ∷ JobCaptured 2 (rect 0 0 1 1) C.Lossy ∷ DrawQueued 1 1 ∷ DrawQueued 2 2 ∷ DrawWritten 1 ∷ DrawWritten 2 ∷ []

not_passed_over : LossyIsPassedOver → ⊥
not_passed_over claim = false≢true (sym (claim (black 1 1) lossy_behind 0 0))

-- Beside its second clause. Wrong: that lossy points are not stale once all is written
abbrev LossyIsNotStale : Type 0
LossyIsNotStale = (next : ℕ) (log : List Entry) (w : Window) → Agrees next log w → (x y : ℕ)
    → is_stale_queued w.desk log x y ≡ (is_within w.desk.wide w.desk.high x y && (has w.pending x y || jobs_relieve w.jobs x y))

not_unlossy : LossyIsNotStale → ⊥
unfolding each_point has number number_in is_empty
not_unlossy claim = false≢true (sym (claim 2 (log_at lossy) (end_of lossy) lossy_agrees 0 0))

-- wrong: that a job in hand is not stale once all that waits is written
abbrev JobsAreNotStale : Type 0
JobsAreNotStale = (next : ℕ) (log : List Entry) (w : Window) → Agrees next log w → (x y : ℕ)
    → is_stale_queued w.desk log x y ≡ (is_within w.desk.wide w.desk.high x y && (has w.pending x y || has w.lossy x y))

not_jobless : JobsAreNotStale → ⊥
unfolding each_point has number number_in is_empty
not_jobless claim = false≢true (sym (claim 2 (log_at in_hand) (end_of in_hand) in_hand_agrees 0 0))

-- Beside `runs_owe_what_is_stale`. Wrong: that any plan is a capture. One that leaves a point out owes it no more.
abbrev AnyPlanOwes : Type 0
AnyPlanOwes = (events : List Event) (w : Window) → run next_number None events ≡ Some w → (x y : ℕ) → owes (Some w) x y ≡ is_stale w.desk (log_at events) x y

abbrev left_out : List Event
left_out = Start (black 1 1) 0 ∷ Capture [] 1 ∷ []

not_any_plan : AnyPlanOwes → ⊥
unfolding each_point has number number_in is_empty
not_any_plan claim = false≢true (claim left_out (end_of left_out) refl 0 0)

-- wrong: that a job's number may be that of an earlier job. The draw of the earlier one would repair what was painted since.
abbrev AnyNumbersOwe : Type 0
AnyNumbersOwe = (events : List Event) → AreEvents next_number None events → (w : Window) → run next_number None events ≡ Some w → (x y : ℕ) → owes (Some w) x y ≡ is_stale w.desk (log_at events) x y

abbrev painted_again : List Event
painted_again = Start (black 1 1) 0 ∷ Write true ∷ MapWindow ∷ Capture (exact (rect 0 0 1 1) ∷ []) 1 ∷ File 1 (result (rect 0 0 1 1) (0 ∷ [])) 500 ∷ Write true ∷ Paint (rect 0 0 1 1) (7 ∷ []) 1000 ∷ []

abbrev numbered_again : List Event
numbered_again = Start (black 1 1) 0 ∷ Write true ∷ MapWindow ∷ Capture (exact (rect 0 0 1 1) ∷ []) 1 ∷ File 1 (result (rect 0 0 1 1) (0 ∷ [])) 500 ∷ Write true ∷ Paint (rect 0 0 1 1) (7 ∷ []) 1000
    ∷ Capture (exact (rect 0 0 1 1) ∷ []) 1 ∷ []

again_plan : IsCaptureOf (end_of painted_again) (exact (rect 0 0 1 1) ∷ [])
unfolding each_point has number number_in is_empty
again_plan = exact_plan 1 1 (end_of painted_again) refl refl refl refl refl

not_any_number : AnyNumbersOwe → ⊥
unfolding each_point has number number_in is_empty
not_any_number claim = false≢true (sym (claim numbered_again (tt, (tt, (tt, (pends_plan, (tt, (tt, (tt, (again_plan, tt)))))))) (end_of numbered_again) refl 0 0))

-- wrong: that a log may begin in the midst of a window's life
abbrev AnyBeginningServes : Type 0
AnyBeginningServes = (events : List Event) (v w : Window) → AreLogged next_number 2 (Some v) events → run next_number (Some v) events ≡ Some w
    → (x y : ℕ) → owes (Some w) x y ≡ is_stale w.desk (log_of next_number [] (Some v) events) x y

not_any_beginning : AnyBeginningServes → ⊥
unfolding each_point has number number_in is_empty
not_any_beginning claim = false≢true (claim [] (end_of repaired) (end_of repaired) tt refl 0 0)
