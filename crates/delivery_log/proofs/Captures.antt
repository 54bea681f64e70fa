-- A capture and the filing of a result keep the agreement of a window and its log.
use Rattle.std.proofs.Common.{◌≡◌, ◌⊎◌, inl, inr, ℕ, ◌+◌, ◌<◌, ◌≤◌, Bool, true, false, not, ◌&&◌, ◌||◌, List, [], ◌∷◌, ◌++◌, map, length, cond, refl, sym, ap, ◌∙◌, subst, arith, append_assoc, append-nil}
use Rattle.std.specs.Prelude.{All, nat_eq, nat_lt}
use Rattle.std.specs.List.{list_any}
use Rattle.std.proofs.lemmas.Bool.{cases_Bool, or_parts, false≢true}
use Rattle.std.proofs.lemmas.Bool.Decides.{nat_tests}
use Rattle.std.proofs.lemmas.List.{map-append}
use Rattle.std.proofs.lemmas.List.Elements.{All-head, All-weaker}
use Rattle.xp_base.specs.declared.coding.Coding.{Coding}
use Rattle.xp_base.specs.declared.coding.Coding.TheVariants as C
use Rattle.xp_base.specs.Points.{is_in, is_within}
use Rattle.delivery_model.specs.Grids.{Points, has}
use Rattle.delivery_model.specs.Window.{Job, Draw, Draws, Window}
use Rattle.delivery_model.specs.Events.{is_empty, Planned, region_taken, jobs_of, captured, queued, queue_ready, with_result, relief_queued, lossy_queued, same_coding, Filing, Late, Foreign, Filed, filed_as}
use Rattle.delivery_model.specs.Invariant.{draws_of}
use Rattle.delivery_model.specs.Kept.{JobFits, IsKept}
use Rattle.delivery_model.specs.Plans.{IsCaptureOf}
use Rattle.delivery_model.specs.Refusals.{is_busy, is_clean}
use Rattle.delivery_model.specs.Point.{is_exact}
use Rattle.delivery_model.proofs.Grids.{has-points_within, has-empty}
use Rattle.delivery_model.proofs.Numberings.{draws-append, rise_bound}
use Rattle.delivery_model.proofs.JobSteps.{jobs_of-relieve, has-relief_queued, has-lossy_queued, keeps_queued, keeps_result}
use Rattle.delivery_log.specs.Log.{Entry, DrawQueued, captures, queues, filings}
use Rattle.delivery_log.specs.Stale.{since_origin, is_capture, is_queueing, is_repair, is_lossy_over, queued_draws, written_draws}
use Rattle.delivery_log.specs.Traces.{Trace, Hand, written_at, waiting_at, hand_at, seen_at, PointAgrees, any_hand_relieves, any_before, NoneRelievesBehind}
use Rattle.delivery_log.specs.Agreement.{recorded, queued_jobs, Agrees}
use Rattle.delivery_log.proofs.Traces.{agrees_captured, agrees_refreshed, agrees_queued}
use Rattle.delivery_log.proofs.Logs.{since_origin-append, repair_queued, lossy_queued as lossy_drawn}
use Rattle.delivery_log.proofs.Lists.{hand_numbers, written-append, jobs_captured, jobs_queued, jobs_marked, draws_stay, draws_queued, undrawn-captures, unwritten-captures, captured_there, later_on, later-captures}
use Rattle.delivery_log.proofs.Seeing.{AllUnqueued, AllUncaptured, unqueued_all, all_numbers, all_parts, below_next, other_numbers, queueing_new, written_stay, waiting_stay, hands_stay, hands_relieve, OnlyAs, only_as, covering_only, covering_since, captures_quiet, captures_new, captures_after, after_relieves, captures_apart}
use Rattle.delivery_log.proofs.Steps.{agrees_same, sequences_of}

-- numbers below the next one are not captured again
uncaptured : (next first : ℕ) (plan : List Planned) (ks : List ℕ) → next ≤ first → All (λ (k : ℕ). k < next) ks → AllUncaptured (captures first plan) ks
uncaptured next first plan ks from low = All-weaker (λ (k : ℕ). k < next) (λ (k : ℕ). list_any (is_capture k) (captures first plan) ≡ false) (λ k less. captures_new k first plan (omega (arith, less, from))) ks low

-- where it is not clean and nothing is pending, no job is in hand
idle : (w : Window) → is_clean w ≡ false → is_empty w.pending ≡ true → w.jobs ≡ []
idle w unclean empty = none w.jobs (or_parts (nat_lt 0 (length w.jobs)) (is_busy w.packets) (or_parts (is_empty w.lossy) (nat_lt 0 (length w.jobs) || is_busy w.packets) rest).1).0
  where
    rest : (is_empty w.lossy || (nat_lt 0 (length w.jobs) || is_busy w.packets)) ≡ false
    rest = sym (rw empty refl) ∙ unclean

    none : (jobs : List Job) → nat_lt 0 (length jobs) ≡ false → jobs ≡ []
    none [] low = refl
    none (j ∷ jobs) low = absurd (grind (arith, nat_tests))

-- a refresh, where the jobs in hand are none
refreshed_at : (x y : ℕ) (log : List Entry) (written waiting : List Trace) (jobs : List Job) (new : List Hand) (pending lossy : Bool) → jobs ≡ [] → pending ≡ false → any_before new ≡ false → any_hand_relieves new ≡ lossy → NoneRelievesBehind new
    → PointAgrees (record { written = written; waiting = waiting; hand = map (hand_at x y log) jobs; pending = pending; lossy = lossy })
    → PointAgrees (record { written = written; waiting = waiting; hand = map (hand_at x y log) jobs ++ new; pending = false; lossy = lossy })
refreshed_at x y log written waiting jobs new pending lossy none free after relieved apart was = rw none (agrees_refreshed written waiting new lossy after relieved apart (rw (none, free) at was))

module _ (next : ℕ) (log : List Entry) (plan : List Planned) (first : ℕ) (w : Window) (from : next ≤ first) (event : IsCaptureOf w plan) (agrees : Agrees next log w) (x y : ℕ) (within : is_within w.desk.wide w.desk.high x y ≡ true) where
  abbrev taken : Points
  taken = region_taken w

  abbrev more : List Entry
  more = captures first plan

  abbrev new : List Hand
  new = map (hand_at x y (log ++ more)) (jobs_of w.desk taken first plan)

  after : any_before new ≡ false
  after = captures_after x y (log ++ more) w.desk taken first plan (since_origin x y log) (since_origin-append x y log more (captures_quiet x y first plan))

  relieved : any_hand_relieves new ≡ (list_any (λ (p : Planned). is_in p.rect x y) plan && has taken x y)
  relieved = hands_relieve x y (log ++ more) (jobs_of w.desk taken first plan) ∙ jobs_of-relieve w taken first plan x y within

  all_taken : any_hand_relieves new ≡ has taken x y
  all_taken = relieved ∙ which (cases_Bool (has taken x y))
    where
      which : (has taken x y ≡ true) ⊎ (has taken x y ≡ false) → (list_any (λ (p : Planned). is_in p.rect x y) plan && has taken x y) ≡ has taken x y
      which (inl is) = rw (event.planned.covers x y is, is) refl
      which (inr isnt) = rw isnt (and_none (list_any (λ (p : Planned). is_in p.rect x y) plan))
        where
          and_none : (b : Bool) → (b && false) ≡ false
          and_none true = refl
          and_none false = refl

  apart : NoneRelievesBehind new
  apart = captures_apart x y (log ++ more) w taken first plan within event.planned.apart

  old : AllUncaptured more (queued_jobs log)
  old = uncaptured next first plan (queued_jobs log) from (All-weaker (λ (k : ℕ). k < agrees.jobs.low) (λ (k : ℕ). k < next) (λ k less. omega (arith, less, rise_bound agrees.jobs.low next (hand_numbers w.jobs) agrees.jobs.unqueued))
      (queued_jobs log) (below_next 0 agrees.jobs.low (queued_jobs log) agrees.jobs.queued))

  hand_old : AllUncaptured more (hand_numbers w.jobs)
  hand_old = uncaptured next first plan (hand_numbers w.jobs) from (below_next agrees.jobs.low next (hand_numbers w.jobs) agrees.jobs.unqueued)

  free : (ss : List ℕ) → AllUnqueued more ss
  free ss = all_numbers (λ (s : ℕ). list_any (is_queueing (λ k. true) s) more ≡ false) ss (unqueued_all more (undrawn-captures first plan))

  new_point : PointAgrees (record { written = map (written_at x y log) (written_draws log); waiting = map (waiting_at x y log) (draws_of w.packets); hand = map (hand_at x y log) w.jobs ++ new; pending = false; lossy = has w.lossy x y })
  new_point = which (cases_Bool (is_empty w.pending))
    where
      was : PointAgrees (seen_at x y log w)
      was = agrees.points x y within

      which : (is_empty w.pending ≡ true) ⊎ (is_empty w.pending ≡ false)
          → PointAgrees (record { written = map (written_at x y log) (written_draws log); waiting = map (waiting_at x y log) (draws_of w.packets); hand = map (hand_at x y log) w.jobs ++ new; pending = false; lossy = has w.lossy x y })
      which (inl empty) = refreshed_at x y log (map (written_at x y log) (written_draws log)) (map (waiting_at x y log) (draws_of w.packets)) w.jobs new (has w.pending x y) (has w.lossy x y)
          (idle w event.unclean empty) (has-empty w.pending x y empty) after (all_taken ∙ region empty) apart was
        where
          region : is_empty w.pending ≡ true → has taken x y ≡ has w.lossy x y
          region empty = ap (λ (b : Bool). has (cond b w.lossy w.pending) x y) empty
      which (inr some) =
          let region : has taken x y ≡ has w.pending x y = ap (λ (b : Bool). has (cond b w.lossy w.pending) x y) some in
          agrees_captured _ _ (map (hand_at x y log) w.jobs) new (has w.pending x y) (has w.lossy x y) after (all_taken ∙ region) (after_relieves new after ∙ (all_taken ∙ region)) apart was

  captured_at : PointAgrees (seen_at x y (log ++ more) (captured plan first w))
  captured_at = rw (
    written-append log more,
    unwritten-captures first plan,
    append-nil (written_draws log),
    written_stay x y log more (captures_quiet x y first plan) old (written_draws log) (free (written_draws log)),
    waiting_stay x y log more (captures_quiet x y first plan) old (draws_of w.packets) (free (sequences_of w.packets)),
    map-append (hand_at x y (log ++ more)) w.jobs (jobs_of w.desk taken first plan),
    hands_stay x y log more (captures_quiet x y first plan) old w.jobs hand_old,
    has-points_within w.desk.wide w.desk.high (λ x y. false) x y within,
  )
      new_point

pub agrees_capture : (next : ℕ) (log : List Entry) (plan : List Planned) (first : ℕ) (w : Window) → next ≤ first → IsCaptureOf w plan → Agrees next log w → Agrees (first + length plan) (log ++ captures first plan) (captured plan first w)
agrees_capture next log plan first w from event agrees = record {
  jobs = jobs_captured next log plan first w from agrees.jobs;
  draws = draws_stay log (captures first plan) (captured plan first w) w (undrawn-captures first plan) (unwritten-captures first plan) refl refl agrees.draws;
  later = later_on [] log (captures first plan) agrees.later (later-captures log first plan);
  points = λ x y within. captured_at next log plan first w from event agrees x y within;
}

-- the first job in hand is queued
module _ (next now : ℕ) (log : List Entry) (j : Job) (jobs : List Job) (w : Window) (kept : IsKept (record w { jobs = j ∷ jobs })) (agrees : Agrees next log (record w { jobs = j ∷ jobs })) where
  abbrev drawn : Draw
  drawn = record { sequence = w.next_sequence; capture = j.capture; relief = relief_queued w j.capture.rect j.relief j.capture.coding }

  abbrev entry : List Entry
  entry = DrawQueued j.number w.next_sequence ∷ []

  abbrev left : Window
  left = record (queued now j w) { jobs = jobs }

  fits : JobFits w.desk.wide w.desk.high j
  fits = All-head (JobFits w.desk.wide w.desk.high) j jobs kept.jobs

  only : OnlyAs (recorded j) log
  only = only_as next log agrees.jobs.before (map recorded jobs) (recorded j) agrees.jobs.in_hand agrees.jobs.captured

  there : list_any (is_capture j.number) log ≡ true
  there = captured_there log agrees.jobs.before (map recorded jobs) (recorded j) agrees.jobs.in_hand

  low : All (λ (s : ℕ). nat_eq w.next_sequence s ≡ false) (queued_draws log)
  low = other_numbers (queued_draws log) w.next_sequence (below_next 0 w.next_sequence (queued_draws log) agrees.draws.sequences)

  unqueued : list_any (is_queueing (λ k. true) w.next_sequence) log ≡ false
  unqueued = queueing_new log w.next_sequence low

  one : (ss : List ℕ) → All (λ (s : ℕ). nat_eq w.next_sequence s ≡ false) ss → AllUnqueued entry ss
  one ss others = All-weaker (λ (s : ℕ). nat_eq w.next_sequence s ≡ false) (λ (s : ℕ). list_any (is_queueing (λ k. true) s) entry ≡ false) (λ s other. rw other refl) ss others

  both_free : AllUnqueued entry (written_draws log ++ sequences_of w.packets)
  both_free = one (written_draws log ++ sequences_of w.packets) (subst (λ ss. All (λ (s : ℕ). nat_eq w.next_sequence s ≡ false) ss) agrees.draws.waiting low)

  uncaptured_any : (ks : List ℕ) → AllUncaptured entry ks
  uncaptured_any ks = all_numbers (λ (k : ℕ). list_any (is_capture k) entry ≡ false) ks (λ k. refl)

  module _ (x y : ℕ) (within : is_within w.desk.wide w.desk.high x y ≡ true) where
    abbrev h : Hand
    h = hand_at x y log j

    inside : h.relieves ≡ true → h.covers ≡ true
    inside is = fits.inside x y is

    same_exact : (coding : Coding) → same_coding coding C.Exact ≡ is_exact coding
    same_exact C.Exact = refl
    same_exact C.Lossy = refl

    same_lossy : (coding : Coding) → same_coding coding C.Lossy ≡ not (is_exact coding)
    same_lossy C.Exact = refl
    same_lossy C.Lossy = refl

    is_coarse : (coding : Coding) → is_exact coding ≡ false → coding ≡ C.Lossy
    is_coarse C.Exact isnt = absurd (false≢true (sym isnt))
    is_coarse C.Lossy isnt = refl

    whole : h.exact ≡ false → h.covers ≡ true → h.relieves ≡ true
    whole coarse covers = fits.whole (is_coarse j.capture.coding coarse) x y covers

    repairs : is_repair x y (log ++ entry) w.next_sequence ≡ (h.after && (h.exact && h.covers))
    repairs = repair_queued x y log j.number w.next_sequence unqueued ∙ (covering_since x y C.Exact (recorded j) log only ∙ ap (λ (b : Bool). h.after && (b && h.covers)) (same_exact j.capture.coding))

    coarse_over : is_lossy_over x y (log ++ entry) w.next_sequence ≡ (not h.exact && h.covers)
    coarse_over = lossy_drawn x y log j.number w.next_sequence unqueued ∙ (covering_only x y C.Lossy (recorded j) log only ∙ (rw (there, same_lossy j.capture.coding) refl))

    relief : (coding : Coding) → j.capture.coding ≡ coding → has (relief_queued w j.capture.rect j.relief coding) x y ≡ (h.relieves || (is_exact coding && (has w.lossy x y && h.covers)))
    relief C.Exact is = has-relief_queued w j C.Exact x y within
    relief C.Lossy is = sym (or_none h.relieves)
      where
        or_none : (b : Bool) → (b || false) ≡ b
        or_none true = refl
        or_none false = refl

    lossy : (coding : Coding) → j.capture.coding ≡ coding → has (lossy_queued w j.capture.rect coding) x y ≡ ((is_exact coding && (has w.lossy x y && not h.covers)) || (not (is_exact coding) && (has w.lossy x y || h.covers)))
    lossy C.Exact is = has-lossy_queued w j C.Exact x y within ∙ sym (or_none (has w.lossy x y && not h.covers))
      where
        or_none : (b : Bool) → (b || false) ≡ b
        or_none true = refl
        or_none false = refl
    lossy C.Lossy is = has-lossy_queued w j C.Lossy x y within

    parts : AllUnqueued entry (written_draws log) × AllUnqueued entry (sequences_of w.packets)
    parts = all_parts (λ (s : ℕ). list_any (is_queueing (λ k. true) s) entry ≡ false) (written_draws log) (sequences_of w.packets) both_free

    queued_at : PointAgrees (seen_at x y (log ++ entry) left)
    queued_at = rw (
      written-append log entry,
      append-nil (written_draws log),
      written_stay x y log entry refl (uncaptured_any (queued_jobs log)) (written_draws log) parts.0,
      draws-append w.packets (Draws drawn ∷ []),
      map-append (waiting_at x y (log ++ entry)) (draws_of w.packets) (drawn ∷ []),
      waiting_stay x y log entry refl (uncaptured_any (queued_jobs log)) (draws_of w.packets) parts.1,
      repairs,
      coarse_over,
      relief j.capture.coding refl,
      hands_stay x y log entry refl (uncaptured_any (queued_jobs log)) jobs (uncaptured_any (hand_numbers jobs)),
      lossy j.capture.coding refl,
    )
        (agrees_queued (map (written_at x y log) (written_draws log)) (map (waiting_at x y log) (draws_of w.packets)) h (map (hand_at x y log) jobs) (has w.pending x y) (has w.lossy x y) inside whole (agrees.points x y within))

  pub agrees_one : Agrees next (log ++ entry) left
  agrees_one = record {
    jobs = jobs_queued next log j jobs w.next_sequence left (record w { jobs = j ∷ jobs }) refl refl agrees.jobs;
    draws = draws_queued log j.number drawn left (record w { jobs = j ∷ jobs }) refl refl refl agrees.draws;
    later = later_on [] log entry agrees.later (rw there refl);
    points = λ x y within. queued_at x y within;
  }

agrees_ready : (next now : ℕ) (jobs : List Job) (log : List Entry) (w : Window) → IsKept (record w { jobs = jobs }) → Agrees next log (record w { jobs = jobs }) → Agrees next (log ++ queues w.next_sequence jobs) (queue_ready now jobs w)
agrees_ready next now [] log w kept agrees = rw (append-nil log) agrees
agrees_ready next now (j ∷ jobs) log w kept agrees =
    which j.encoded (agrees_ready next now jobs (log ++ DrawQueued j.number w.next_sequence ∷ []) (queued now j w) (keeps_queued now j jobs w kept) (agrees_one next now log j jobs w kept agrees))
  where
    which : (b : Bool) → Agrees next ((log ++ DrawQueued j.number w.next_sequence ∷ []) ++ queues (w.next_sequence + 1) jobs) (queue_ready now jobs (queued now j w))
        → Agrees next (log ++ cond b (DrawQueued j.number w.next_sequence ∷ queues (w.next_sequence + 1) jobs) []) (cond b (queue_ready now jobs (queued now j w)) (record w { jobs = j ∷ jobs }))
    which true left = rw (append_assoc log (DrawQueued j.number w.next_sequence ∷ []) (queues (w.next_sequence + 1) jobs)) at left
    which false left = rw (append-nil log) agrees

-- whether results came back plays no part at a point
hands-with_result : (x y : ℕ) (log : List Entry) (jobs : List Job) (k : ℕ) → map (hand_at x y log) (with_result jobs k) ≡ map (hand_at x y log) jobs
hands-with_result x y log [] k = refl
hands-with_result x y log (j ∷ jobs) k = elim (cases_Bool (nat_eq j.number k)) [
  | inl same ↦ rw same refl
  | inr other ↦ rw other (ap (λ hs. hand_at x y log j ∷ hs) (hands-with_result x y log jobs k))
]

agrees_result : (next : ℕ) (log : List Entry) (k : ℕ) (w : Window) → Agrees next log w → Agrees next log (record w { jobs = with_result w.jobs k })
agrees_result next log k w agrees = record {
  jobs = jobs_marked next log k (record w { jobs = with_result w.jobs k }) w refl agrees.jobs;
  draws = record { waiting = agrees.draws.waiting; sequences = agrees.draws.sequences };
  later = agrees.later;
  points = λ x y within. rw (hands-with_result x y log w.jobs k) (agrees.points x y within);
}

pub agrees_filed : (next now : ℕ) (f : Filing) (k : ℕ) (log : List Entry) (w : Window) → IsKept w → Agrees next log w → Agrees next (log ++ filings f k w) (filed_as f k now w)
agrees_filed next now Late k log w kept agrees = agrees_same next log w w refl refl refl refl refl refl agrees
agrees_filed next now Foreign k log w kept agrees = agrees_same next log w w refl refl refl refl refl refl agrees
agrees_filed next now Filed k log w kept agrees = agrees_ready next now (with_result w.jobs k) log w (keeps_result k w kept) (agrees_result next log k w agrees)
