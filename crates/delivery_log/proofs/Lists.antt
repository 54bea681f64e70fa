-- The parts of the agreement that speak of jobs and draws, over lists.
use Rattle.std.proofs.Common.{◌≡◌, inl, inr, ℕ, ◌+◌, ◌≤◌, Bool, true, false, ◌&&◌, ◌||◌, List, [], ◌∷◌, ◌++◌, map, length, refl, sym, ap, ◌∙◌, subst, arith, append_assoc, append-nil}
use Rattle.std.specs.Prelude.{All, nat_eq}
use Rattle.std.specs.List.{list_any}
use Rattle.std.proofs.lemmas.Bool.{cases_Bool, and_parts, eq-eqb}
use Rattle.std.proofs.lemmas.Bool.Decides.{nat_tests}
use Rattle.std.proofs.lemmas.List.{map-append}
use Rattle.std.proofs.lemmas.List.Elements.{All-push, All-weaker}
use Rattle.delivery_model.specs.Grids.{Points, Grid}
use Rattle.delivery_model.specs.Window.{Job, Draw, Packet, Draws, Window}
use Rattle.delivery_model.specs.Events.{Planned, jobs_of, region_taken, captured, with_result}
use Rattle.delivery_model.specs.Numbers.{Rise}
use Rattle.delivery_model.proofs.Numberings.{rise_later, rise_append, rise_bound, rise_push, rise_jobs, draws-append, numbers-with_result, draw_numbers}
use Rattle.delivery_log.specs.Log.{Entry, Fresh, Kept, Damaged, JobCaptured, DrawQueued, DrawWritten, captures}
use Rattle.delivery_log.specs.Stale.{is_capture, is_queueing, queued_draws, written_draws}
use Rattle.delivery_log.specs.Agreement.{Recorded, recorded, captured_jobs, queued_jobs, is_later, are_later, JobsAgree, DrawsAgree}
use Rattle.delivery_log.proofs.Logs.{any_entry-append}

pub queued-append : (log more : List Entry) → queued_draws (log ++ more) ≡ queued_draws log ++ queued_draws more
queued-append [] more = refl
queued-append (Fresh ∷ log) more = queued-append log more
queued-append (Kept w h ∷ log) more = queued-append log more
queued-append (Damaged r ∷ log) more = queued-append log more
queued-append (JobCaptured k r coding ∷ log) more = queued-append log more
queued-append (DrawQueued k s ∷ log) more = ap (λ ss. s ∷ ss) (queued-append log more)
queued-append (DrawWritten s ∷ log) more = queued-append log more

pub written-append : (log more : List Entry) → written_draws (log ++ more) ≡ written_draws log ++ written_draws more
written-append [] more = refl
written-append (Fresh ∷ log) more = written-append log more
written-append (Kept w h ∷ log) more = written-append log more
written-append (Damaged r ∷ log) more = written-append log more
written-append (JobCaptured k r coding ∷ log) more = written-append log more
written-append (DrawQueued k s ∷ log) more = written-append log more
written-append (DrawWritten s ∷ log) more = ap (λ ss. s ∷ ss) (written-append log more)

captured-append : (log more : List Entry) → captured_jobs (log ++ more) ≡ captured_jobs log ++ captured_jobs more
captured-append [] more = refl
captured-append (Fresh ∷ log) more = captured-append log more
captured-append (Kept w h ∷ log) more = captured-append log more
captured-append (Damaged r ∷ log) more = captured-append log more
captured-append (JobCaptured k r coding ∷ log) more = ap (λ cs. record { number = k; rect = r; coding = coding } ∷ cs) (captured-append log more)
captured-append (DrawQueued k s ∷ log) more = captured-append log more
captured-append (DrawWritten s ∷ log) more = captured-append log more

queued_jobs-append : (log more : List Entry) → queued_jobs (log ++ more) ≡ queued_jobs log ++ queued_jobs more
queued_jobs-append [] more = refl
queued_jobs-append (Fresh ∷ log) more = queued_jobs-append log more
queued_jobs-append (Kept w h ∷ log) more = queued_jobs-append log more
queued_jobs-append (Damaged r ∷ log) more = queued_jobs-append log more
queued_jobs-append (JobCaptured k r coding ∷ log) more = queued_jobs-append log more
queued_jobs-append (DrawQueued k s ∷ log) more = ap (λ ks. k ∷ ks) (queued_jobs-append log more)
queued_jobs-append (DrawWritten s ∷ log) more = queued_jobs-append log more

abbrev pub record_numbers : List Recorded → List ℕ
record_numbers cs = map (λ (c : Recorded). c.number) cs

abbrev pub hand_numbers : List Job → List ℕ
hand_numbers jobs = map (λ (j : Job). j.number) jobs

-- whether the log captures a number
pub captures_as : (k : ℕ) (log : List Entry) → list_any (is_capture k) log ≡ list_any (λ (c : Recorded). nat_eq c.number k) (captured_jobs log)
captures_as k [] = refl
captures_as k (Fresh ∷ log) = captures_as k log
captures_as k (Kept w h ∷ log) = captures_as k log
captures_as k (Damaged r ∷ log) = captures_as k log
captures_as k (JobCaptured i r coding ∷ log) = ap (λ (b : Bool). nat_eq i k || b) (captures_as k log)
captures_as k (DrawQueued i s ∷ log) = captures_as k log
captures_as k (DrawWritten s ∷ log) = captures_as k log

any_there : (front rest : List Recorded) (c : Recorded) → list_any (λ (d : Recorded). nat_eq d.number c.number) (front ++ c ∷ rest) ≡ true
any_there [] rest c = rw (eq-eqb c.number c.number refl) refl
any_there (d ∷ front) rest c = grind (arith, nat_tests, any_there front rest c)

pub captured_there : (log : List Entry) (front rest : List Recorded) (c : Recorded) → captured_jobs log ≡ front ++ c ∷ rest → list_any (is_capture c.number) log ≡ true
captured_there log front rest c is = captures_as c.number log ∙ (ap (λ (cs : List Recorded). list_any (λ (d : Recorded). nat_eq d.number c.number) cs) is ∙ any_there front rest c)

still_captured : (log more : List Entry) (ks : List ℕ) → All (λ (k : ℕ). list_any (is_capture k) log ≡ true) ks → All (λ (k : ℕ). list_any (is_capture k) (log ++ more) ≡ true) ks
still_captured log more ks all = All-weaker (λ (k : ℕ). list_any (is_capture k) log ≡ true) (λ (k : ℕ). list_any (is_capture k) (log ++ more) ≡ true)
    (λ k is. any_entry-append (is_capture k) log more ∙ grind (arith, nat_tests)) ks all

-- entries that neither capture nor queue
pub jobs_stay : (next : ℕ) (log more : List Entry) (v w : Window) → captured_jobs more ≡ [] → queued_jobs more ≡ [] → v.jobs ≡ w.jobs → JobsAgree next log w → JobsAgree next (log ++ more) v
jobs_stay next log more v w none never same agree = record {
  captured = rw (captured-append log more, none, append-nil) agree.captured;
  before = agree.before;
  in_hand = rw (captured-append log more, none, append-nil, same) agree.in_hand;
  low = agree.low;
  queued = rw (queued_jobs-append log more, never, append-nil) agree.queued;
  unqueued = rw same agree.unqueued;
  were_captured = rw (queued_jobs-append log more, never, append-nil) (still_captured log more (queued_jobs log) agree.were_captured);
}

-- the same where all jobs in hand are cancelled
pub jobs_cancelled : (next : ℕ) (log more : List Entry) (v w : Window) → captured_jobs more ≡ [] → queued_jobs more ≡ [] → v.jobs ≡ [] → JobsAgree next log w → JobsAgree next (log ++ more) v
jobs_cancelled next log more v w none never gone agree = record {
  captured = rw (captured-append log more, none, append-nil) agree.captured;
  before = captured_jobs log;
  in_hand = rw (captured-append log more, none, gone) refl;
  low = agree.low;
  queued = rw (queued_jobs-append log more, never, append-nil) agree.queued;
  unqueued = rw gone (rise_bound agree.low next (hand_numbers w.jobs) agree.unqueued);
  were_captured = rw (queued_jobs-append log more, never, append-nil) (still_captured log more (queued_jobs log) agree.were_captured);
}

-- a capture
captured-captures : (desk : Grid) (region : Points) (first : ℕ) (plan : List Planned) → captured_jobs (captures first plan) ≡ map recorded (jobs_of desk region first plan)
captured-captures desk region first [] = refl
captured-captures desk region first (p ∷ plan) = ap (λ cs. record { number = first; rect = p.rect; coding = p.coding } ∷ cs) (captured-captures desk region (first + 1) plan)

numbers_recorded : (jobs : List Job) → record_numbers (map recorded jobs) ≡ hand_numbers jobs
numbers_recorded [] = refl
numbers_recorded (j ∷ jobs) = ap (λ ks. j.number ∷ ks) (numbers_recorded jobs)

unqueued-captures : (first : ℕ) (plan : List Planned) → queued_jobs (captures first plan) ≡ []
unqueued-captures first [] = refl
unqueued-captures first (p ∷ plan) = unqueued-captures (first + 1) plan

pub undrawn-captures : (first : ℕ) (plan : List Planned) → queued_draws (captures first plan) ≡ []
undrawn-captures first [] = refl
undrawn-captures first (p ∷ plan) = undrawn-captures (first + 1) plan

pub unwritten-captures : (first : ℕ) (plan : List Planned) → written_draws (captures first plan) ≡ []
unwritten-captures first [] = refl
unwritten-captures first (p ∷ plan) = unwritten-captures (first + 1) plan

pub jobs_captured : (next : ℕ) (log : List Entry) (plan : List Planned) (first : ℕ) (w : Window) → next ≤ first → JobsAgree next log w → JobsAgree (first + length plan) (log ++ captures first plan) (captured plan first w)
jobs_captured next log plan first w from agree = record {
  captured = rw (captured-append log (captures first plan), captured-captures w.desk (region_taken w) first plan, map-append, numbers_recorded)
      (rise_append 0 first (first + length plan) (record_numbers (captured_jobs log)) (hand_numbers new) (rise_later 0 next first (record_numbers (captured_jobs log)) from agree.captured) (rise_jobs w.desk (region_taken w) first plan));
  before = agree.before;
  in_hand = captured-append log (captures first plan) ∙ (rw (agree.in_hand, captured-captures w.desk (region_taken w) first plan, map-append) (append_assoc agree.before (map recorded w.jobs) (map recorded new)));
  low = agree.low;
  queued = rw (queued_jobs-append log (captures first plan), unqueued-captures first plan, append-nil) agree.queued;
  unqueued = rw map-append (rise_append agree.low first (first + length plan) (hand_numbers w.jobs) (hand_numbers new) (rise_later agree.low next first (hand_numbers w.jobs) from agree.unqueued) (rise_jobs w.desk (region_taken w) first plan));
  were_captured = rw (queued_jobs-append log (captures first plan), unqueued-captures first plan, append-nil) (still_captured log (captures first plan) (queued_jobs log) agree.were_captured);
}
  where
    new : List Job
    new = jobs_of w.desk (region_taken w) first plan

-- the first job in hand is queued
pub jobs_queued : (next : ℕ) (log : List Entry) (j : Job) (jobs : List Job) (s : ℕ) (v w : Window) → v.jobs ≡ jobs → w.jobs ≡ j ∷ jobs → JobsAgree next log w → JobsAgree next (log ++ DrawQueued j.number s ∷ []) v
jobs_queued next log j jobs s v w now was agree = record {
  captured = rw (captured-append log (DrawQueued j.number s ∷ []), append-nil) agree.captured;
  before = agree.before ++ recorded j ∷ [];
  in_hand = rw (captured-append log (DrawQueued j.number s ∷ []), append-nil, now) (agree.in_hand ∙ (rw was (sym (append_assoc agree.before (recorded j ∷ []) (map recorded jobs)))));
  low = j.number + 1;
  queued = rw queued_jobs-append (rise_append 0 agree.low (j.number + 1) (queued_jobs log) (j.number ∷ []) agree.queued (hand.0, omega arith));
  unqueued = rw now hand.1;
  were_captured = rw queued_jobs-append (All-push (λ (k : ℕ). list_any (is_capture k) (log ++ DrawQueued j.number s ∷ []) ≡ true) (queued_jobs log) j.number
      (still_captured log (DrawQueued j.number s ∷ []) (queued_jobs log) agree.were_captured)
      (any_entry-append (is_capture j.number) log (DrawQueued j.number s ∷ []) ∙ grind (arith, nat_tests, there)));
}
  where
    hand : Rise agree.low next (j.number ∷ hand_numbers jobs)
    hand = subst (λ (js : List Job). Rise agree.low next (hand_numbers js)) was agree.unqueued

    there : list_any (is_capture j.number) log ≡ true
    there = captures_as j.number log ∙ (ap (λ (cs : List Recorded). list_any (λ (c : Recorded). nat_eq c.number j.number) cs) (agree.in_hand ∙ (rw was refl)) ∙ any_there agree.before (map recorded jobs) (recorded j))

-- whether results came back plays no part
pub recorded-with_result : (jobs : List Job) (k : ℕ) → map recorded (with_result jobs k) ≡ map recorded jobs
recorded-with_result [] k = refl
recorded-with_result (j ∷ jobs) k = elim (cases_Bool (nat_eq j.number k)) [
  | inl same ↦ rw same refl
  | inr other ↦ rw other (ap (λ cs. recorded j ∷ cs) (recorded-with_result jobs k))
]

pub jobs_marked : (next : ℕ) (log : List Entry) (k : ℕ) (v w : Window) → v.jobs ≡ with_result w.jobs k → JobsAgree next log w → JobsAgree next log v
jobs_marked next log k v w is agree = record {
  captured = agree.captured;
  before = agree.before;
  in_hand = agree.in_hand ∙ (rw (is, recorded-with_result w.jobs k) refl);
  low = agree.low;
  queued = agree.queued;
  unqueued = rw (is, numbers-with_result w.jobs k) agree.unqueued;
  were_captured = agree.were_captured;
}

-- the draws
pub draws_stay : (log more : List Entry) (v w : Window) → queued_draws more ≡ [] → written_draws more ≡ [] → draw_numbers v.packets ≡ draw_numbers w.packets → v.next_sequence ≡ w.next_sequence → DrawsAgree log w → DrawsAgree (log ++ more) v
draws_stay log more v w none never same next agree = record {
  waiting = rw (queued-append log more, written-append log more, none, never, append-nil, append-nil, same) agree.waiting;
  sequences = rw (queued-append log more, none, append-nil, next) agree.sequences;
}

pub draws_queued : (log : List Entry) (k : ℕ) (d : Draw) (v w : Window) → v.packets ≡ w.packets ++ Draws d ∷ [] → d.sequence ≡ w.next_sequence → v.next_sequence ≡ w.next_sequence + 1 → DrawsAgree log w → DrawsAgree (log ++ DrawQueued k w.next_sequence ∷ []) v
draws_queued log k d v w is number next agree = record {
  waiting = rw (queued-append log (DrawQueued k w.next_sequence ∷ []), written-append log (DrawQueued k w.next_sequence ∷ []), append-nil, is, draws-append w.packets (Draws d ∷ []), map-append, number)
      (ap (λ ss. ss ++ w.next_sequence ∷ []) agree.waiting ∙ append_assoc (written_draws log) (draw_numbers w.packets) (w.next_sequence ∷ []));
  sequences = rw (queued-append log (DrawQueued k w.next_sequence ∷ []), next) (rise_push 0 w.next_sequence (queued_draws log) agree.sequences);
}

pub draws_written : (log : List Entry) (d : Draw) (packets : List Packet) (v w : Window) → w.packets ≡ Draws d ∷ packets → v.packets ≡ packets → v.next_sequence ≡ w.next_sequence → DrawsAgree log w → DrawsAgree (log ++ DrawWritten d.sequence ∷ []) v
draws_written log d packets v w was is next agree = record {
  waiting = rw (queued-append log (DrawWritten d.sequence ∷ []), written-append log (DrawWritten d.sequence ∷ []), append-nil, is)
      (agree.waiting ∙ (rw was (sym (append_assoc (written_draws log) (d.sequence ∷ []) (draw_numbers packets)))));
  sequences = rw (queued-append log (DrawWritten d.sequence ∷ []), append-nil, next) agree.sequences;
}

-- what comes later
pub later_on : (front log more : List Entry) → are_later front log ≡ true → are_later (front ++ log) more ≡ true → are_later front (log ++ more) ≡ true
later_on front [] more was now = subst (λ (es : List Entry). are_later es more ≡ true) (append-nil front) now
later_on front (e ∷ log) more was now =
    let parts = and_parts (is_later front e) (are_later (front ++ e ∷ []) log) was in
    rw (parts.0, later_on (front ++ e ∷ []) log more parts.1 (subst (λ (es : List Entry). are_later es more ≡ true) (sym (append_assoc front (e ∷ []) log)) now)) refl

pub later-captures : (front : List Entry) (first : ℕ) (plan : List Planned) → are_later front (captures first plan) ≡ true
later-captures front first [] = refl
later-captures front first (p ∷ plan) = later-captures (front ++ JobCaptured first p.rect p.coding ∷ []) (first + 1) plan

-- a draw that was queued stands in the log
pub queued_there : (log : List Entry) (front rest : List ℕ) (s : ℕ) → queued_draws log ≡ front ++ s ∷ rest → list_any (is_queueing (λ k. true) s) log ≡ true
queued_there log front rest s is = queues_as s log ∙ (ap (λ (ss : List ℕ). list_any (λ (i : ℕ). nat_eq i s) ss) is ∙ any_draw front)
  where
    queues_as : (s : ℕ) (log : List Entry) → list_any (is_queueing (λ k. true) s) log ≡ list_any (λ (i : ℕ). nat_eq i s) (queued_draws log)
    queues_as s [] = refl
    queues_as s (Fresh ∷ log) = queues_as s log
    queues_as s (Kept w h ∷ log) = queues_as s log
    queues_as s (Damaged r ∷ log) = queues_as s log
    queues_as s (JobCaptured k r coding ∷ log) = queues_as s log
    queues_as s (DrawQueued k i ∷ log) = rw (and_all (nat_eq i s)) (ap (λ (b : Bool). nat_eq i s || b) (queues_as s log))
      where
        and_all : (b : Bool) → (b && true) ≡ b
        and_all true = refl
        and_all false = refl
    queues_as s (DrawWritten i ∷ log) = queues_as s log

    any_draw : (front : List ℕ) → list_any (λ (i : ℕ). nat_eq i s) (front ++ s ∷ rest) ≡ true
    any_draw [] = rw (eq-eqb s s refl) refl
    any_draw (i ∷ front) = grind (arith, nat_tests, any_draw front)
