-- What the parts of a quiet turn do.
use Rattle.std.proofs.Common.{◌≡◌, ◌⊎◌, inl, inr, ℕ, ◌+◌, ◌<◌, Bool, true, false, ◌&&◌, ◌||◌, List, [], ◌∷◌, Option, Some, None, map, length, cond, refl, sym, ap, ◌∙◌, subst, arith}
use Rattle.std.specs.Prelude.{All, nat_eq, replicate}
use Rattle.std.specs.List.{list_any}
use Rattle.std.proofs.lemmas.Bool.{cases_Bool, and_parts, eqb-true, eq-eqb, false_from_ne_true, false≢true, cond-true, cond-false}
use Rattle.std.proofs.lemmas.List.Elements.{All-nil, All-cons, All-head, All-tail, All-weaker}
use Rattle.xp_base.specs.Points.{Rectangle}
use Rattle.xp_base.specs.Captures.{Captured}
use Rattle.delivery_model.specs.Window.{Job, Packet, Sent, Window}
use Rattle.delivery_model.specs.Events.{load, queued, queue_ready, with_result, same_capture, capture_of, Filing, Late, Foreign, Filed, filing_of, filed_as, written_front, rect_sent, without_sent, acknowledged_as, acknowledged}
use Rattle.delivery_model.specs.Numbers.{Rise, IsNumbered}
use Rattle.delivery_model.proofs.Numberings.{rise_without, numbered_filed, sent_numbers}
use Rattle.delivery_log.specs.Times.{IsTimed}
use Rattle.delivery_log.specs.Rest.{is_none, is_idle, rest, read, Result, file_all, write_all, is_waiting, AllAcknowledged, FrontWaits, HaveResults}
use Rattle.delivery_log.proofs.TimeSteps.{timed_acknowledged}

-- an idle window
pub idle_parts : (w : Window) → is_idle w ≡ true → (w.jobs ≡ []) × (w.packets ≡ [])
idle_parts w idle = let parts = and_parts (is_none w.jobs) (is_none w.packets) idle in (none_jobs w.jobs parts.0, none_packets w.packets parts.1)
  where
    none_jobs : (jobs : List Job) → is_none jobs ≡ true → jobs ≡ []
    none_jobs [] none = refl
    none_jobs (j ∷ jobs) none = absurd (false≢true none)

    none_packets : (packets : List Packet) → is_none packets ≡ true → packets ≡ []
    none_packets [] none = refl
    none_packets (p ∷ packets) none = absurd (false≢true none)

pub idle_from : (w : Window) → w.jobs ≡ [] → w.packets ≡ [] → is_idle w ≡ true
idle_from w jobs packets = rw (jobs, packets) refl

-- what an acknowledgement in time changes: the unacknowledged draws, and the delay
pub record ReadsAs (v w : Window) : Type 0 where
  pub desk : v.desk ≡ w.desk
  pub client : v.client ≡ w.client
  pub packets : v.packets ≡ w.packets
  pub jobs : v.jobs ≡ w.jobs
  pub pending : v.pending ≡ w.pending
  pub lossy : v.lossy ≡ w.lossy
  pub mapped : v.mapped ≡ w.mapped

acknowledged_reads : (k t : ℕ) (w : Window) → ReadsAs (acknowledged k false t w) w
acknowledged_reads k t w = which (rect_sent w.unacknowledged k)
  where
    which : (o : Option Rectangle) → ReadsAs (acknowledged_as o k false t w) w
    which None = record { desk = refl; client = refl; packets = refl; jobs = refl; pending = refl; lossy = refl; mapped = refl }
    which (Some r) = record { desk = refl; client = refl; packets = refl; jobs = refl; pending = refl; lossy = refl; mapped = refl }

pub read_reads : (t : ℕ) (ks : List ℕ) (w : Window) → ReadsAs (read t ks w) w
read_reads t [] w = record { desk = refl; client = refl; packets = refl; jobs = refl; pending = refl; lossy = refl; mapped = refl }
read_reads t (k ∷ ks) w =
    let first = acknowledged_reads k t w in
    let more = read_reads t ks (acknowledged k false t w) in
    record {
      desk = more.desk ∙ first.desk;
      client = more.client ∙ first.client;
      packets = more.packets ∙ first.packets;
      jobs = more.jobs ∙ first.jobs;
      pending = more.pending ∙ first.pending;
      lossy = more.lossy ∙ first.lossy;
      mapped = more.mapped ∙ first.mapped;
    }

pub read_timed : (clock t : ℕ) (ks : List ℕ) (w : Window) → IsTimed clock w → IsTimed clock (read t ks w)
read_timed clock t [] w timed = timed
read_timed clock t (k ∷ ks) w timed = read_timed clock t ks (acknowledged k false t w) (timed_acknowledged clock (rect_sent w.unacknowledged k) k w t timed)

-- a read of all acknowledgements
abbrev is_named : List ℕ → Sent → Bool
is_named ks s = list_any (λ (k : ℕ). nat_eq k s.sequence) ks

without_unknown : (sent : List Sent) (k : ℕ) → rect_sent sent k ≡ None → without_sent sent k ≡ sent
without_unknown [] k none = refl
without_unknown (s ∷ sent) k none = which (cases_Bool (nat_eq s.sequence k)) (without_unknown sent k)
  where
    which : (nat_eq s.sequence k ≡ true) ⊎ (nat_eq s.sequence k ≡ false) → (rect_sent sent k ≡ None → without_sent sent k ≡ sent) → without_sent (s ∷ sent) k ≡ s ∷ sent
    which (inl is) rest = absurd (cc (sym (cond-true (nat_eq s.sequence k) (Some s.rect) (rect_sent sent k) is) ∙ none))
    which (inr isnt) rest = rw isnt (ap (λ ss. s ∷ ss) (rest (sym (cond-false (nat_eq s.sequence k) (Some s.rect) (rect_sent sent k) isnt) ∙ none)))

acknowledged_sent : (k t : ℕ) (w : Window) → (acknowledged k false t w).unacknowledged ≡ without_sent w.unacknowledged k
acknowledged_sent k t w = which (rect_sent w.unacknowledged k) refl
  where
    which : (o : Option Rectangle) → rect_sent w.unacknowledged k ≡ o → (acknowledged_as o k false t w).unacknowledged ≡ without_sent w.unacknowledged k
    which None is = sym (without_unknown w.unacknowledged k is)
    which (Some r) is = refl

beyond : (low next k : ℕ) (ks : List ℕ) (sent : List Sent) → k < low → Rise low next (sent_numbers sent) → All (λ (s : Sent). is_named (k ∷ ks) s ≡ true) sent → All (λ (s : Sent). is_named ks s ≡ true) sent
beyond low next k ks [] less rises named = All-nil (λ (s : Sent). is_named ks s ≡ true)
beyond low next k ks (s ∷ sent) less rises named = All-cons (λ (s : Sent). is_named ks s ≡ true) s sent here
    (beyond (s.sequence + 1) next k ks sent (omega (arith, less, rises.0)) rises.1 (All-tail (λ (s : Sent). is_named (k ∷ ks) s ≡ true) s sent named))
  where
    other : nat_eq k s.sequence ≡ false
    other = false_from_ne_true (nat_eq k s.sequence) (λ is. omega (arith, less, rises.0, eqb-true k s.sequence is))

    here : is_named ks s ≡ true
    here = sym (ap (λ (b : Bool). b || is_named ks s) other) ∙ All-head (λ (s : Sent). is_named (k ∷ ks) s ≡ true) s sent named

left_named : (low next k : ℕ) (ks : List ℕ) (sent : List Sent) → Rise low next (sent_numbers sent) → All (λ (s : Sent). is_named (k ∷ ks) s ≡ true) sent → All (λ (s : Sent). is_named ks s ≡ true) (without_sent sent k)
left_named low next k ks [] rises named = All-nil (λ (s : Sent). is_named ks s ≡ true)
left_named low next k ks (s ∷ sent) rises named = which (cases_Bool (nat_eq s.sequence k)) (left_named (s.sequence + 1) next k ks sent rises.1 later)
  where
    later : All (λ (s : Sent). is_named (k ∷ ks) s ≡ true) sent
    later = All-tail (λ (s : Sent). is_named (k ∷ ks) s ≡ true) s sent named

    which : (nat_eq s.sequence k ≡ true) ⊎ (nat_eq s.sequence k ≡ false) → All (λ (s : Sent). is_named ks s ≡ true) (without_sent sent k) → All (λ (s : Sent). is_named ks s ≡ true) (without_sent (s ∷ sent) k)
    which (inl is) rest = rw is (beyond (s.sequence + 1) next k ks sent (omega (arith, eqb-true s.sequence k is)) rises.1 later)
    which (inr isnt) rest = rw isnt (All-cons (λ (s : Sent). is_named ks s ≡ true) s (without_sent sent k) here rest)
      where
        other : nat_eq k s.sequence ≡ false
        other = false_from_ne_true (nat_eq k s.sequence) (λ is. false≢true (sym isnt ∙ eq-eqb s.sequence k (sym (eqb-true k s.sequence is))))

        here : is_named ks s ≡ true
        here = sym (ap (λ (b : Bool). b || is_named ks s) other) ∙ All-head (λ (s : Sent). is_named (k ∷ ks) s ≡ true) s sent named

none_named : (sent : List Sent) → All (λ (s : Sent). is_named [] s ≡ true) sent → sent ≡ []
none_named [] named = refl
none_named (s ∷ sent) named = absurd (false≢true (All-head (λ (s : Sent). is_named [] s ≡ true) s sent named))

read_all : (next t : ℕ) (ks : List ℕ) (w : Window) → Rise 0 next (sent_numbers w.unacknowledged) → All (λ (s : Sent). is_named ks s ≡ true) w.unacknowledged → (read t ks w).unacknowledged ≡ []
read_all next t [] w rises named = none_named w.unacknowledged named
read_all next t (k ∷ ks) w rises named = read_all next t ks (acknowledged k false t w)
    (rw (acknowledged_sent k t w) (rise_without 0 next w.unacknowledged k rises))
    (rw (acknowledged_sent k t w) (left_named 0 next k ks w.unacknowledged rises named))

pub reading_unloads : (next t : ℕ) (ks : List ℕ) (w : Window) → IsNumbered next w → is_idle w ≡ true → AllAcknowledged ks w → load (read t ks w) ≡ 0
reading_unloads next t ks w numbered idle named =
    let parts = idle_parts w idle in
    let each : All (λ (s : Sent). is_named ks s ≡ true) w.unacknowledged = All-weaker (λ (s : Sent). (is_waiting s.sequence w.packets || is_named ks s) ≡ true) (λ (s : Sent). is_named ks s ≡ true)
    (λ s is. sym (ap (λ (ps : List Packet). is_waiting s.sequence ps || is_named ks s) parts.1) ∙ is) w.unacknowledged named in
    let jobs : length (read t ks w).jobs ≡ 0 = ap (λ (js : List Job). length js) ((read_reads t ks w).jobs ∙ parts.0) in
    let sent : length (read t ks w).unacknowledged ≡ 0 = ap (λ (ss : List Sent). length ss) (read_all w.next_sequence t ks w numbered.unacknowledged each) in
    omega (arith, jobs, sent)

-- results for all jobs
abbrev drop_ready : List Job → List Job
drop_ready [] = []
drop_ready (j ∷ jobs) = cond j.encoded (drop_ready jobs) (j ∷ jobs)

jobs-ready : (now : ℕ) (jobs : List Job) (w : Window) → (queue_ready now jobs w).jobs ≡ drop_ready jobs
jobs-ready now [] w = refl
jobs-ready now (j ∷ jobs) w = which j.encoded (jobs-ready now jobs (queued now j w))
  where
    which : (b : Bool) → (queue_ready now jobs (queued now j w)).jobs ≡ drop_ready jobs → (cond b (queue_ready now jobs (queued now j w)) (record w { jobs = j ∷ jobs })).jobs ≡ cond b (drop_ready jobs) (j ∷ jobs)
    which true rest = rest
    which false rest = refl

front_ready : (jobs : List Job) → FrontWaits (drop_ready jobs)
front_ready [] = tt
front_ready (j ∷ jobs) = which (cases_Bool j.encoded) (front_ready jobs)
  where
    which : (j.encoded ≡ true) ⊎ (j.encoded ≡ false) → FrontWaits (drop_ready jobs) → FrontWaits (cond j.encoded (drop_ready jobs) (j ∷ jobs))
    which (inl is) rest = rw is rest
    which (inr isnt) rest = subst (λ (js : List Job). FrontWaits js) (sym (cond-false j.encoded (drop_ready jobs) (j ∷ jobs) isnt)) isnt

abbrev has_result : List Result → Job → Bool
has_result results j = list_any (λ (r : Result). nat_eq r.number j.number && same_capture j.capture r.capture) results

have_ready : (results : List Result) (jobs : List Job) → HaveResults results jobs → HaveResults results (drop_ready jobs)
have_ready results [] have = have
have_ready results (j ∷ jobs) have = which (cases_Bool j.encoded) (have_ready results jobs (All-tail (λ (j : Job). (j.encoded || has_result results j) ≡ true) j jobs have))
  where
    which : (j.encoded ≡ true) ⊎ (j.encoded ≡ false) → HaveResults results (drop_ready jobs) → HaveResults results (cond j.encoded (drop_ready jobs) (j ∷ jobs))
    which (inl is) rest = rw is rest
    which (inr isnt) rest = subst (λ (js : List Job). HaveResults results js) (sym (cond-false j.encoded (drop_ready jobs) (j ∷ jobs) isnt)) have

all_have : (jobs : List Job) → FrontWaits jobs → HaveResults [] jobs → jobs ≡ []
all_have [] waits have = refl
all_have (j ∷ jobs) waits have = absurd (false≢true (sym (rw waits refl) ∙ All-head (λ (j : Job). (j.encoded || has_result [] j) ≡ true) j jobs have))

abbrev numbers_of : List Job → List ℕ
numbers_of jobs = map (λ (j : Job). j.number) jobs

-- behind a job no other has its number
past : (low next k : ℕ) (jobs : List Job) → k < low → Rise low next (numbers_of jobs) → All (λ (j : Job). nat_eq k j.number ≡ false) jobs
past low next k [] less rises = All-nil (λ (j : Job). nat_eq k j.number ≡ false)
past low next k (j ∷ jobs) less rises = All-cons (λ (j : Job). nat_eq k j.number ≡ false) j jobs (false_from_ne_true (nat_eq k j.number) (λ is. omega (arith, less, rises.0, eqb-true k j.number is)))
    (past (j.number + 1) next k jobs (omega (arith, less, rises.0)) rises.1)

turned_test : (a b : ℕ) → nat_eq b a ≡ false → nat_eq a b ≡ false
turned_test a b other = false_from_ne_true (nat_eq a b) (λ is. false≢true (sym other ∙ eq-eqb b a (sym (eqb-true a b is))))

-- a result that is not filed is that of no job in hand
unfiled : (low next : ℕ) (r : Result) (jobs : List Job) → Rise low next (numbers_of jobs) → (filing_of (capture_of jobs r.number) r.capture ≡ Filed → ⊥) → All (λ (j : Job). (nat_eq r.number j.number && same_capture j.capture r.capture) ≡ false) jobs
unfiled low next r [] rises not_filed = All-nil (λ (j : Job). (nat_eq r.number j.number && same_capture j.capture r.capture) ≡ false)
unfiled low next r (j ∷ jobs) rises not_filed = which (cases_Bool (nat_eq j.number r.number)) (unfiled (j.number + 1) next r jobs rises.1)
  where
    which : (nat_eq j.number r.number ≡ true) ⊎ (nat_eq j.number r.number ≡ false)
        → ((filing_of (capture_of jobs r.number) r.capture ≡ Filed → ⊥) → All (λ (j : Job). (nat_eq r.number j.number && same_capture j.capture r.capture) ≡ false) jobs)
        → All (λ (j : Job). (nat_eq r.number j.number && same_capture j.capture r.capture) ≡ false) (j ∷ jobs)
    which (inl is) rest = All-cons (λ (j : Job). (nat_eq r.number j.number && same_capture j.capture r.capture) ≡ false) j jobs other
        (All-weaker (λ (i : Job). nat_eq r.number i.number ≡ false) (λ (i : Job). (nat_eq r.number i.number && same_capture i.capture r.capture) ≡ false) (λ i isnt. rw isnt refl) jobs
        (past (j.number + 1) next r.number jobs (omega (arith, eqb-true j.number r.number is)) rises.1))
      where
        same : filing_of (capture_of (j ∷ jobs) r.number) r.capture ≡ cond (same_capture j.capture r.capture) Filed Foreign
        same = rw is refl

        other : (nat_eq r.number j.number && same_capture j.capture r.capture) ≡ false
        other = false_from_ne_true _ (λ both. not_filed (same ∙ cond-true (same_capture j.capture r.capture) Filed Foreign (and_parts (nat_eq r.number j.number) (same_capture j.capture r.capture) both).1))
    which (inr isnt) rest = All-cons (λ (j : Job). (nat_eq r.number j.number && same_capture j.capture r.capture) ≡ false) j jobs (rw (turned_test r.number j.number isnt) refl)
        (rest (λ is. not_filed (ap (λ (o : Option Captured). filing_of o r.capture) (cond-false (nat_eq j.number r.number) (Some j.capture) (capture_of jobs r.number) isnt) ∙ is)))

have_others : (r : Result) (results : List Result) (jobs : List Job) → All (λ (j : Job). (nat_eq r.number j.number && same_capture j.capture r.capture) ≡ false) jobs → HaveResults (r ∷ results) jobs → HaveResults results jobs
have_others r results [] none have = All-nil (λ (j : Job). (j.encoded || has_result results j) ≡ true)
have_others r results (j ∷ jobs) none have = All-cons (λ (j : Job). (j.encoded || has_result results j) ≡ true) j jobs
    (sym (ap (λ (b : Bool). j.encoded || (b || has_result results j)) (All-head (λ (j : Job). (nat_eq r.number j.number && same_capture j.capture r.capture) ≡ false) j jobs none)) ∙ All-head (λ (j : Job). (j.encoded || has_result (r ∷ results) j) ≡ true) j jobs have)
    (have_others r results jobs (All-tail (λ (j : Job). (nat_eq r.number j.number && same_capture j.capture r.capture) ≡ false) j jobs none) (All-tail (λ (j : Job). (j.encoded || has_result (r ∷ results) j) ≡ true) j jobs have))

-- once the job is marked, the other results are enough
have_marked : (low next : ℕ) (r : Result) (results : List Result) (jobs : List Job) → Rise low next (numbers_of jobs) → HaveResults (r ∷ results) jobs → HaveResults results (with_result jobs r.number)
have_marked low next r results [] rises have = All-nil (λ (j : Job). (j.encoded || has_result results j) ≡ true)
have_marked low next r results (j ∷ jobs) rises have = which (cases_Bool (nat_eq j.number r.number)) (have_marked (j.number + 1) next r results jobs rises.1 later)
  where
    later : HaveResults (r ∷ results) jobs
    later = All-tail (λ (j : Job). (j.encoded || has_result (r ∷ results) j) ≡ true) j jobs have

    which : (nat_eq j.number r.number ≡ true) ⊎ (nat_eq j.number r.number ≡ false) → HaveResults results (with_result jobs r.number) → HaveResults results (with_result (j ∷ jobs) r.number)
    which (inl is) rest = rw is (All-cons (λ (j : Job). (j.encoded || has_result results j) ≡ true) (record j { encoded = true }) jobs refl
        (have_others r results jobs (All-weaker (λ (i : Job). nat_eq r.number i.number ≡ false) (λ (i : Job). (nat_eq r.number i.number && same_capture i.capture r.capture) ≡ false) (λ i isnt. rw isnt refl) jobs
        (past (j.number + 1) next r.number jobs (omega (arith, eqb-true j.number r.number is)) rises.1)) later))
    which (inr isnt) rest = rw isnt (All-cons (λ (j : Job). (j.encoded || has_result results j) ≡ true) j (with_result jobs r.number)
        (sym (ap (λ (b : Bool). j.encoded || ((b && same_capture j.capture r.capture) || has_result results j)) (turned_test r.number j.number isnt)) ∙ All-head (λ (j : Job). (j.encoded || has_result (r ∷ results) j) ≡ true) j jobs have) rest)

pub filing_empties : (next now : ℕ) (results : List Result) (w : Window) → IsNumbered next w → FrontWaits w.jobs → HaveResults results w.jobs → (file_all now results w).jobs ≡ []
filing_empties next now [] w numbered waits have = all_have w.jobs waits have
filing_empties next now (r ∷ results) w numbered waits have = which (filing_of (capture_of w.jobs r.number) r.capture) refl
    (λ (f : Filing) waits have. filing_empties next now results (filed_as f r.number now w) (numbered_filed next f r.number now w numbered) waits have)
  where
    back : {f g : Filing} → f ≡ g → (file_all now results (filed_as f r.number now w)).jobs ≡ [] → (file_all now results (filed_as g r.number now w)).jobs ≡ []
    back same none = subst (λ (f : Filing). (file_all now results (filed_as f r.number now w)).jobs ≡ []) same none

    late_is : Late ≡ Filed → ⊥
    late_is is = absurd (cc is)

    foreign_is : Foreign ≡ Filed → ⊥
    foreign_is is = absurd (cc is)

    which : (f : Filing) → filing_of (capture_of w.jobs r.number) r.capture ≡ f
        → ((g : Filing) → FrontWaits (filed_as g r.number now w).jobs → HaveResults results (filed_as g r.number now w).jobs → (file_all now results (filed_as g r.number now w)).jobs ≡ [])
        → (file_all now results (filed_as (filing_of (capture_of w.jobs r.number) r.capture) r.number now w)).jobs ≡ []
    which Late is rest = back (sym is) (rest Late waits (have_others r results w.jobs (unfiled 0 next r w.jobs numbered.jobs (λ filed. late_is (sym is ∙ filed))) have))
    which Foreign is rest = back (sym is) (rest Foreign waits (have_others r results w.jobs (unfiled 0 next r w.jobs numbered.jobs (λ filed. foreign_is (sym is ∙ filed))) have))
    which Filed is rest = back (sym is) (rest Filed (rw (jobs-ready now (with_result w.jobs r.number) w) (front_ready (with_result w.jobs r.number)))
        (rw (jobs-ready now (with_result w.jobs r.number) w) (have_ready results (with_result w.jobs r.number) (have_marked 0 next r results w.jobs numbered.jobs have))))

-- writes of all packets
writing_all : (lossy_shows : ℕ → ℕ) (packets : List Packet) (w : Window) → w.packets ≡ packets → (write_all lossy_shows (replicate (length packets) true) w).packets ≡ []
writing_all lossy_shows [] w is = is
writing_all lossy_shows (p ∷ packets) w is = rw is (writing_all lossy_shows packets (written_front lossy_shows (p ∷ packets) w) refl)

pub writing_empties : (lossy_shows : ℕ → ℕ) (w : Window) → (write_all lossy_shows (replicate (length w.packets) true) w).packets ≡ []
writing_empties lossy_shows w = writing_all lossy_shows w.packets w refl
