-- What the log and the window show at a point, as the log grows.
use Rattle.std.proofs.Common.{◌≡◌, ◌⊎◌, inl, inr, ℕ, ◌+◌, ◌<◌, ◌≤◌, Bool, true, false, not, ◌&&◌, ◌||◌, List, [], ◌∷◌, ◌++◌, map, refl, sym, ap, ◌∙◌, subst, arith, append_assoc}
use Rattle.std.specs.Prelude.{All, nat_eq}
use Rattle.std.specs.List.{list_any}
use Rattle.std.proofs.lemmas.Bool.{cases_Bool, and_parts, or_parts, eqb-true, eq-eqb, false_from_ne_true, false≢true}
use Rattle.std.proofs.lemmas.Bool.Decides.{nat_tests}
use Rattle.std.proofs.lemmas.List.Elements.{All-nil, All-cons, All-head, All-tail, All-weaker}
use Rattle.xp_base.specs.declared.coding.Coding.{Coding}
use Rattle.xp_base.specs.Points.{is_in, is_within}
use Rattle.delivery_model.specs.Grids.{Points, Grid, has}
use Rattle.delivery_model.specs.Window.{Job, Draw, Packet, NewWindow, WindowResized, Draws, Window}
use Rattle.delivery_model.specs.Events.{Planned, jobs_of, same_coding, jobs_relieve, with_relief}
use Rattle.delivery_model.specs.Invariant.{draws_of}
use Rattle.delivery_model.specs.Numbers.{Rise}
use Rattle.delivery_model.specs.Plans.{AreApart}
use Rattle.delivery_model.specs.Owed.{packets_relieve}
use Rattle.delivery_model.proofs.Grids.{has-points_within}
use Rattle.delivery_model.proofs.Numberings.{reaches, rise_bound}
use Rattle.delivery_model.proofs.JobSteps.{jobs_of-relieve}
use Rattle.delivery_log.specs.Log.{Entry, Fresh, Kept, Damaged, JobCaptured, DrawQueued, DrawWritten, captures}
use Rattle.delivery_log.specs.Stale.{is_origin, since, since_origin, is_capture, is_covering, is_queueing, queued_draws}
use Rattle.delivery_log.specs.Traces.{Hand, written_at, waiting_at, hand_at, any_repair, any_trace_relieves, any_hand_relieves, any_before, any_after_relieves, any_after_covers, NoneRelievesBehind, NoneBeforeBehind}
use Rattle.delivery_log.specs.Agreement.{Recorded, captured_jobs, queued_jobs}
use Rattle.delivery_log.proofs.Logs.{any_entry-append, since_origin-append, since_origin-now, repair_stays, lossy_stays, repair_ends}
use Rattle.delivery_log.proofs.Lists.{record_numbers, hand_numbers, captures_as}

-- none of these draws is queued by more entries; none of these jobs is captured by them
abbrev pub AllUnqueued : List Entry → List ℕ → Type 0
AllUnqueued more ss = All (λ (s : ℕ). list_any (is_queueing (λ k. true) s) more ≡ false) ss

abbrev pub AllUncaptured : List Entry → List ℕ → Type 0
AllUncaptured more ks = All (λ (k : ℕ). list_any (is_capture k) more ≡ false) ks

pub unqueued_all : (more : List Entry) → queued_draws more ≡ [] → (s : ℕ) → list_any (is_queueing (λ k. true) s) more ≡ false
unqueued_all [] none s = refl
unqueued_all (Fresh ∷ more) none s = unqueued_all more none s
unqueued_all (Kept w h ∷ more) none s = unqueued_all more none s
unqueued_all (Damaged r ∷ more) none s = unqueued_all more none s
unqueued_all (JobCaptured k r coding ∷ more) none s = unqueued_all more none s
unqueued_all (DrawQueued k i ∷ more) none s = absurd (cc none)
unqueued_all (DrawWritten i ∷ more) none s = unqueued_all more none s

pub all_numbers : (P : ℕ → Type 0) (ks : List ℕ) → ((k : ℕ) → P k) → All P ks
all_numbers P [] each = All-nil P
all_numbers P (k ∷ ks) each = All-cons P k ks (each k) (all_numbers P ks each)

pub all_parts : (P : ℕ → Type 0) (ks js : List ℕ) → All P (ks ++ js) → All P ks × All P js
all_parts P [] js all = (All-nil P, all)
all_parts P (k ∷ ks) js all =
    let rest = all_parts P ks js (All-tail P k (ks ++ js) all) in
    (All-cons P k ks (All-head P k (ks ++ js) all) rest.0, rest.1)

pub uncaptured_all : (more : List Entry) → captured_jobs more ≡ [] → (k : ℕ) → list_any (is_capture k) more ≡ false
uncaptured_all more none k = captures_as k more ∙ (rw none refl)

-- numbers that rise to one that is new
pub below_next : (low next : ℕ) (ks : List ℕ) → Rise low next ks → All (λ (k : ℕ). k < next) ks
below_next low next [] rises = All-nil (λ (k : ℕ). k < next)
below_next low next (k ∷ ks) rises = All-cons (λ (i : ℕ). i < next) k ks (omega (arith, rise_bound (k + 1) next ks rises.1)) (below_next (k + 1) next ks rises.1)

pub other_numbers : (ks : List ℕ) (next : ℕ) → All (λ (k : ℕ). k < next) ks → All (λ (k : ℕ). nat_eq next k ≡ false) ks
other_numbers ks next low = All-weaker (λ (k : ℕ). k < next) (λ (k : ℕ). nat_eq next k ≡ false) (λ k less. false_from_ne_true (nat_eq next k) (λ is. omega (arith, less, eqb-true next k is))) ks low

-- where a number is new no entry queues it
pub queueing_new : (log : List Entry) (s : ℕ) → All (λ (i : ℕ). nat_eq s i ≡ false) (queued_draws log) → list_any (is_queueing (λ k. true) s) log ≡ false
queueing_new [] s new = refl
queueing_new (Fresh ∷ log) s new = queueing_new log s new
queueing_new (Kept w h ∷ log) s new = queueing_new log s new
queueing_new (Damaged r ∷ log) s new = queueing_new log s new
queueing_new (JobCaptured k r coding ∷ log) s new = queueing_new log s new
queueing_new (DrawQueued k i ∷ log) s new =
    let first : nat_eq i s ≡ false = turned i s (All-head (λ (i : ℕ). nat_eq s i ≡ false) i (queued_draws log) new) in
    rw (first, queueing_new log s (All-tail (λ (i : ℕ). nat_eq s i ≡ false) i (queued_draws log) new)) refl
  where
    turned : (a b : ℕ) → nat_eq b a ≡ false → nat_eq a b ≡ false
    turned a b other = false_from_ne_true (nat_eq a b) (λ is. false≢true (sym other ∙ eq-eqb b a (sym (eqb-true a b is))))
queueing_new (DrawWritten i ∷ log) s new = queueing_new log s new

-- what the log says of draws and jobs stays
module _ (x y : ℕ) (log more : List Entry) (quiet : list_any (is_origin x y) more ≡ false) (old : AllUncaptured more (queued_jobs log)) where
  pub written_stay : (ss : List ℕ) → AllUnqueued more ss → map (written_at x y (log ++ more)) ss ≡ map (written_at x y log) ss
  written_stay [] unqueued = refl
  written_stay (s ∷ ss) unqueued =
      let first : list_any (is_queueing (λ k. true) s) more ≡ false = All-head (λ (s : ℕ). list_any (is_queueing (λ k. true) s) more ≡ false) s ss unqueued in
      rw (repair_stays x y log more s quiet old first, lossy_stays x y log more s old first)
      (ap (λ ts. written_at x y log s ∷ ts) (written_stay ss (All-tail (λ (s : ℕ). list_any (is_queueing (λ k. true) s) more ≡ false) s ss unqueued)))

  pub waiting_stay : (ds : List Draw) → AllUnqueued more (map (λ (d : Draw). d.sequence) ds) → map (waiting_at x y (log ++ more)) ds ≡ map (waiting_at x y log) ds
  waiting_stay [] unqueued = refl
  waiting_stay (d ∷ ds) unqueued =
      let first : list_any (is_queueing (λ k. true) d.sequence) more ≡ false = All-head (λ (s : ℕ). list_any (is_queueing (λ k. true) s) more ≡ false) d.sequence (map (λ (d : Draw). d.sequence) ds) unqueued in
      rw (repair_stays x y log more d.sequence quiet old first, lossy_stays x y log more d.sequence old first)
      (ap (λ ts. waiting_at x y log d ∷ ts) (waiting_stay ds (All-tail (λ (s : ℕ). list_any (is_queueing (λ k. true) s) more ≡ false) d.sequence (map (λ (d : Draw). d.sequence) ds) unqueued)))

  pub hands_stay : (js : List Job) → AllUncaptured more (hand_numbers js) → map (hand_at x y (log ++ more)) js ≡ map (hand_at x y log) js
  hands_stay [] uncaptured = refl
  hands_stay (j ∷ js) uncaptured =
      let first : list_any (is_capture j.number) more ≡ false = All-head (λ (k : ℕ). list_any (is_capture k) more ≡ false) j.number (hand_numbers js) uncaptured in
      let same : list_any (is_capture j.number) (since_origin x y (log ++ more)) ≡ list_any (is_capture j.number) (since_origin x y log) =
      ap (λ es. list_any (is_capture j.number) es) (since_origin-append x y log more quiet) ∙ any_entry-append (is_capture j.number) (since_origin x y log) more ∙ grind (arith, nat_tests) in
      rw same (ap (λ hs. hand_at x y log j ∷ hs) (hands_stay js (All-tail (λ (k : ℕ). list_any (is_capture k) more ≡ false) j.number (hand_numbers js) uncaptured)))

-- at the point's origin
module _ (x y : ℕ) (log : List Entry) (e : Entry) (is : is_origin x y e ≡ true) where
  pub written_none : (ss : List ℕ) → any_repair (map (written_at x y (log ++ e ∷ [])) ss) ≡ false
  written_none [] = refl
  written_none (s ∷ ss) = rw (repair_ends x y log e s is, written_none ss) refl

  pub waiting_none : (ds : List Draw) → any_repair (map (waiting_at x y (log ++ e ∷ [])) ds) ≡ false
  waiting_none [] = refl
  waiting_none (d ∷ ds) = rw (repair_ends x y log e d.sequence is, waiting_none ds) refl

  pub hands_none : (js : List Job) → any_after_covers (map (hand_at x y (log ++ e ∷ [])) js) ≡ false
  hands_none [] = refl
  hands_none (j ∷ js) = rw (since_origin-now x y log e is, hands_none js) refl

  pub hands_before : (js : List Job) → NoneBeforeBehind (map (hand_at x y (log ++ e ∷ [])) js)
  hands_before [] = tt
  hands_before (j ∷ js) = ((λ after. absurd (false≢true (sym (ap (λ es. list_any (is_capture j.number) es) (since_origin-now x y log e is)) ∙ after))), hands_before js)

-- reliefs, as the model sees them
pub hands_relieve : (x y : ℕ) (log : List Entry) (js : List Job) → any_hand_relieves (map (hand_at x y log) js) ≡ jobs_relieve js x y
hands_relieve x y log [] = refl
hands_relieve x y log (j ∷ js) = ap (λ (b : Bool). has j.relief x y || b) (hands_relieve x y log js)

pub waiting_relieve : (x y : ℕ) (log : List Entry) (packets : List Packet) → any_trace_relieves (map (waiting_at x y log) (draws_of packets)) ≡ packets_relieve packets x y
waiting_relieve x y log [] = refl
waiting_relieve x y log (NewWindow w h ∷ packets) = waiting_relieve x y log packets
waiting_relieve x y log (WindowResized w h ∷ packets) = waiting_relieve x y log packets
waiting_relieve x y log (Draws d ∷ packets) = ap (λ (b : Bool). has d.relief x y || b) (waiting_relieve x y log packets)

-- a number is captured once, so every entry that captures it is that job's
abbrev pub OnlyAs : Recorded → List Entry → Type 0
OnlyAs c [] = Unit {0}
OnlyAs c (Fresh ∷ log) = OnlyAs c log
OnlyAs c (Kept w h ∷ log) = OnlyAs c log
OnlyAs c (Damaged r ∷ log) = OnlyAs c log
OnlyAs c (JobCaptured k r coding ∷ log) = (nat_eq k c.number ≡ true → (r ≡ c.rect) × (coding ≡ c.coding)) × OnlyAs c log
OnlyAs c (DrawQueued k s ∷ log) = OnlyAs c log
OnlyAs c (DrawWritten s ∷ log) = OnlyAs c log

only_from : (c : Recorded) (log : List Entry) → All (λ (d : Recorded). nat_eq d.number c.number ≡ true → d ≡ c) (captured_jobs log) → OnlyAs c log
only_from c [] all = tt
only_from c (Fresh ∷ log) all = only_from c log all
only_from c (Kept w h ∷ log) all = only_from c log all
only_from c (Damaged r ∷ log) all = only_from c log all
only_from c (JobCaptured k r coding ∷ log) all =
    let first = All-head (λ (d : Recorded). nat_eq d.number c.number ≡ true → d ≡ c) (record { number = k; rect = r; coding = coding }) (captured_jobs log) all in (
      (λ is. (ap (λ (d : Recorded). d.rect) (first is), ap (λ (d : Recorded). d.coding) (first is))),
      only_from c log (All-tail (λ (d : Recorded). nat_eq d.number c.number ≡ true → d ≡ c) (record { number = k; rect = r; coding = coding }) (captured_jobs log) all),
    )
only_from c (DrawQueued k s ∷ log) all = only_from c log all
only_from c (DrawWritten s ∷ log) all = only_from c log all

numbers_at : (front rest : List Recorded) (c : Recorded) → record_numbers (front ++ c ∷ rest) ≡ record_numbers front ++ c.number ∷ record_numbers rest
numbers_at [] rest c = refl
numbers_at (d ∷ front) rest c = ap (λ ks. d.number ∷ ks) (numbers_at front rest c)

above_records : (low next : ℕ) (cs : List Recorded) (c : Recorded) → c.number < low → Rise low next (record_numbers cs) → All (λ (d : Recorded). nat_eq d.number c.number ≡ true → d ≡ c) cs
above_records low next [] c less rises = All-nil (λ (d : Recorded). nat_eq d.number c.number ≡ true → d ≡ c)
above_records low next (e ∷ cs) c less rises = All-cons (λ (d : Recorded). nat_eq d.number c.number ≡ true → d ≡ c) e cs
    (λ is. absurd (omega (arith, less, rises.0, eqb-true e.number c.number is))) (above_records (e.number + 1) next cs c (omega (arith, less, rises.0)) rises.1)

only_one : (low next : ℕ) (front rest : List Recorded) (c : Recorded) → Rise low next (record_numbers (front ++ c ∷ rest)) → All (λ (d : Recorded). nat_eq d.number c.number ≡ true → d ≡ c) (front ++ c ∷ rest)
only_one low next [] rest c rises = All-cons (λ (d : Recorded). nat_eq d.number c.number ≡ true → d ≡ c) c rest (λ is. refl) (above_records (c.number + 1) next rest c (omega arith) rises.1)
only_one low next (e ∷ front) rest c rises = All-cons (λ (d : Recorded). nat_eq d.number c.number ≡ true → d ≡ c) e (front ++ c ∷ rest)
    (λ is. absurd (omega (arith, less, eqb-true e.number c.number is))) (only_one (e.number + 1) next front rest c rises.1)
  where
    less : e.number + 1 ≤ c.number
    less = reaches (e.number + 1) next c.number (record_numbers front) (record_numbers rest) (subst (λ ks. Rise (e.number + 1) next ks) (numbers_at front rest c) rises.1)

pub only_as : (next : ℕ) (log : List Entry) (front rest : List Recorded) (c : Recorded) → captured_jobs log ≡ front ++ c ∷ rest → Rise 0 next (record_numbers (captured_jobs log)) → OnlyAs c log
only_as next log front rest c is rises = only_from c log (subst (λ cs. All (λ (d : Recorded). nat_eq d.number c.number ≡ true → d ≡ c) cs) (sym is)
    (only_one 0 next front rest c (subst (λ cs. Rise 0 next (record_numbers cs)) is rises)))

only-append : (c : Recorded) (log more : List Entry) → OnlyAs c log → OnlyAs c more → OnlyAs c (log ++ more)
only-append c [] more only rest = rest
only-append c (Fresh ∷ log) more only rest = only-append c log more only rest
only-append c (Kept w h ∷ log) more only rest = only-append c log more only rest
only-append c (Damaged r ∷ log) more only rest = only-append c log more only rest
only-append c (JobCaptured k r coding ∷ log) more only rest = (only.0, only-append c log more only.1 rest)
only-append c (DrawQueued k s ∷ log) more only rest = only-append c log more only rest
only-append c (DrawWritten s ∷ log) more only rest = only-append c log more only rest

one_entry : (c : Recorded) (e : Entry) (log : List Entry) → OnlyAs c (e ∷ log) → OnlyAs c (e ∷ []) × OnlyAs c log
one_entry c Fresh log only = (tt, only)
one_entry c (Kept w h) log only = (tt, only)
one_entry c (Damaged r) log only = (tt, only)
one_entry c (JobCaptured k r coding) log only = ((only.0, tt), only.1)
one_entry c (DrawQueued k s) log only = (tt, only)
one_entry c (DrawWritten s) log only = (tt, only)

only_since : (x y : ℕ) (c : Recorded) (after log : List Entry) → OnlyAs c after → OnlyAs c log → OnlyAs c (since x y after log)
only_since x y c after [] was only = was
only_since x y c after (e ∷ log) was only = which (cases_Bool (is_origin x y e)) (one_entry c e log only)
    (λ (next : List Entry) now. only_since x y c next log now (one_entry c e log only).1)
  where
    which : (is_origin x y e ≡ true) ⊎ (is_origin x y e ≡ false) → OnlyAs c (e ∷ []) × OnlyAs c log → ((next : List Entry) → OnlyAs c next → OnlyAs c (since x y next log)) → OnlyAs c (since x y after (e ∷ log))
    which (inl is) parts rest = rw is (rest [] tt)
    which (inr isnt) parts rest = rw isnt (rest (after ++ e ∷ []) (only-append c after (e ∷ []) was parts.0))

-- so what covers a point is that job's rectangle
pub covering_only : (x y : ℕ) (coding : Coding) (c : Recorded) (log : List Entry) → OnlyAs c log
    → list_any (is_covering x y coding c.number) log ≡ (list_any (is_capture c.number) log && (same_coding c.coding coding && is_in c.rect x y))
covering_only x y coding c [] only = refl
covering_only x y coding c (Fresh ∷ log) only = covering_only x y coding c log only
covering_only x y coding c (Kept w h ∷ log) only = covering_only x y coding c log only
covering_only x y coding c (Damaged r ∷ log) only = covering_only x y coding c log only
covering_only x y coding c (JobCaptured k r d ∷ log) only = which (cases_Bool (nat_eq k c.number)) (covering_only x y coding c log only.1)
  where
    which : (nat_eq k c.number ≡ true) ⊎ (nat_eq k c.number ≡ false) → list_any (is_covering x y coding c.number) log ≡ (list_any (is_capture c.number) log && (same_coding c.coding coding && is_in c.rect x y))
        → list_any (is_covering x y coding c.number) (JobCaptured k r d ∷ log) ≡ (list_any (is_capture c.number) (JobCaptured k r d ∷ log) && (same_coding c.coding coding && is_in c.rect x y))
    which (inl is) rest = let same = only.0 is in rw (is, same.0, same.1, rest) (joined (list_any (is_capture c.number) log) (same_coding c.coding coding && is_in c.rect x y))
      where
        joined : (a b : Bool) → (b || (a && b)) ≡ b
        joined a b = grind (arith, nat_tests)
    which (inr isnt) rest = rw isnt rest
covering_only x y coding c (DrawQueued k s ∷ log) only = covering_only x y coding c log only
covering_only x y coding c (DrawWritten s ∷ log) only = covering_only x y coding c log only

pub covering_since : (x y : ℕ) (coding : Coding) (c : Recorded) (log : List Entry) → OnlyAs c log
    → list_any (is_covering x y coding c.number) (since_origin x y log) ≡ (list_any (is_capture c.number) (since_origin x y log) && (same_coding c.coding coding && is_in c.rect x y))
covering_since x y coding c log only = covering_only x y coding c (since_origin x y log) (only_since x y c [] log tt only)

-- a capture's entries are quiet
pub captures_quiet : (x y first : ℕ) (plan : List Planned) → list_any (is_origin x y) (captures first plan) ≡ false
captures_quiet x y first [] = refl
captures_quiet x y first (p ∷ plan) = captures_quiet x y (first + 1) plan

pub captures_new : (k first : ℕ) (plan : List Planned) → k < first → list_any (is_capture k) (captures first plan) ≡ false
captures_new k first [] less = refl
captures_new k first (p ∷ plan) less = rw (other first k less, captures_new k (first + 1) plan (omega (arith, less))) refl
  where
    other : (a b : ℕ) → b < a → nat_eq a b ≡ false
    other a b less = false_from_ne_true (nat_eq a b) (λ is. omega (arith, less, eqb-true a b is))

-- the jobs of a capture were captured after the origin
pub captures_after : (x y : ℕ) (log : List Entry) (desk : Grid) (region : Points) (first : ℕ) (plan : List Planned) (front : List Entry) → since_origin x y log ≡ front ++ captures first plan
    → any_before (map (hand_at x y log) (jobs_of desk region first plan)) ≡ false
captures_after x y log desk region first [] front is = refl
captures_after x y log desk region first (p ∷ plan) front is =
    rw (here, captures_after x y log desk region (first + 1) plan (front ++ JobCaptured first p.rect p.coding ∷ []) (is ∙ sym (append_assoc front (JobCaptured first p.rect p.coding ∷ []) (captures (first + 1) plan)))) refl
  where
    there : (es rest : List Entry) → list_any (is_capture first) (es ++ JobCaptured first p.rect p.coding ∷ rest) ≡ true
    there [] rest = rw (eq-eqb first first refl) refl
    there (e ∷ es) rest = grind (arith, nat_tests, there es rest)

    here : list_any (is_capture first) (since_origin x y log) ≡ true
    here = ap (λ es. list_any (is_capture first) es) is ∙ there front (captures (first + 1) plan)

pub after_relieves : (hs : List Hand) → any_before hs ≡ false → any_after_relieves hs ≡ any_hand_relieves hs
after_relieves [] none = refl
after_relieves (h ∷ hs) none = let parts = or_parts (not h.after) (any_before hs) none in grind (arith, nat_tests, after_relieves hs parts.1)

-- its rectangles share no point
pub captures_apart : (x y : ℕ) (log : List Entry) (w : Window) (region : Points) (first : ℕ) (plan : List Planned) → is_within w.desk.wide w.desk.high x y ≡ true → AreApart plan
    → NoneRelievesBehind (map (hand_at x y log) (jobs_of w.desk region first plan))
captures_apart x y log w region first [] within apart = tt
captures_apart x y log w region first (p ∷ plan) within apart = ((λ is. none (and_parts _ (is_in p.rect x y) is).1), captures_apart x y log w region (first + 1) plan within apart.1)
  where
    none : is_in p.rect x y ≡ true → any_hand_relieves (map (hand_at x y log) (jobs_of w.desk region (first + 1) plan)) ≡ false
    none inside = hands_relieve x y log (jobs_of w.desk region (first + 1) plan) ∙ (jobs_of-relieve w region (first + 1) plan x y within ∙ (rw (apart.0 x y inside) refl))

-- a resize that the point survives leaves the draws as they are there
pub waiting_resized : (x y : ℕ) (log : List Entry) (w h : ℕ) (kept : ℕ → ℕ → Bool) (packets : List Packet) → is_within w h x y ≡ true → kept x y ≡ true
    → map (waiting_at x y log) (draws_of (map (with_relief w h kept) packets ++ WindowResized w h ∷ [])) ≡ map (waiting_at x y log) (draws_of packets)
waiting_resized x y log w h kept [] within both = refl
waiting_resized x y log w h kept (NewWindow a b ∷ packets) within both = waiting_resized x y log w h kept packets within both
waiting_resized x y log w h kept (WindowResized a b ∷ packets) within both = waiting_resized x y log w h kept packets within both
waiting_resized x y log w h kept (Draws d ∷ packets) within both =
    rw (has-points_within w h (λ x y. has d.relief x y && kept x y) x y within, both) (rw (and_all (has d.relief x y)) (ap (λ ts. waiting_at x y log d ∷ ts) (waiting_resized x y log w h kept packets within both)))
  where
    and_all : (b : Bool) → (b && true) ≡ b
    and_all true = refl
    and_all false = refl
