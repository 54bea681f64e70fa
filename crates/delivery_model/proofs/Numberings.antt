-- Every event keeps the numbering.
use Rattle.std.proofs.Common.{◌≡◌, ◌⊎◌, inl, inr, ℕ, suc, ◌+◌, ◌<◌, ◌≤◌, Bool, true, false, List, [], ◌∷◌, ◌++◌, Option, Some, None, map, length, cond, refl, ap, subst, arith}
use Rattle.std.specs.Prelude.{All, nat_eq}
use Rattle.std.proofs.lemmas.Bool.{cases_Bool}
use Rattle.std.proofs.lemmas.List.{map-append, length-append}
use Rattle.std.proofs.lemmas.List.Elements.{All-nil, All-cons, All-weaker}
use Rattle.xp_base.specs.Points.{Rectangle}
use Rattle.delivery_model.specs.Grids.{Points, Grid}
use Rattle.delivery_model.specs.Window.{Job, Draw, Packet, NewWindow, WindowResized, Draws, Sent, Window}
use Rattle.delivery_model.specs.Events.{Planned, region_taken, jobs_of, captured, queued, queue_ready, with_result, Filing, Late, Foreign, Filed, filing_of, capture_of, filed_as, given_back, with_relief, resized, acknowledged_as, rect_sent, without_sent, started, written_front, Event, Start, Paint, Capture, File, Write, Acknowledge, MapWindow, UnmapWindow, Recall, Resize, BufferRefresh, Close, changed, step}
use Rattle.delivery_model.specs.Invariant.{draws_of}
use Rattle.delivery_model.specs.Numbers.{NumbersFrom, Rise, IsNumbered, NumberedWhereThere, next_after}

abbrev pub job_numbers : List Job → List ℕ
job_numbers jobs = map (λ (j : Job). j.number) jobs

abbrev pub draw_numbers : List Packet → List ℕ
draw_numbers packets = map (λ (d : Draw). d.sequence) (draws_of packets)

abbrev pub sent_numbers : List Sent → List ℕ
sent_numbers sent = map (λ (s : Sent). s.sequence) sent

-- numbers that rise
pub rise_from : (low lower next : ℕ) (ks : List ℕ) → lower ≤ low → Rise low next ks → Rise lower next ks
rise_from low lower next [] le rises = omega (arith, le, rises)
rise_from low lower next (k ∷ ks) le rises = (omega (arith, le, rises.0), rises.1)

pub rise_later : (low next later : ℕ) (ks : List ℕ) → next ≤ later → Rise low next ks → Rise low later ks
rise_later low next later [] le rises = omega (arith, le, rises)
rise_later low next later (k ∷ ks) le rises = (rises.0, rise_later (k + 1) next later ks le rises.1)

pub rise_append : (low next later : ℕ) (ks js : List ℕ) → Rise low next ks → Rise next later js → Rise low later (ks ++ js)
rise_append low next later [] js rises more = rise_from next low later js rises more
rise_append low next later (k ∷ ks) js rises more = (rises.0, rise_append (k + 1) next later ks js rises.1 more)

pub rise_bound : (low next : ℕ) (ks : List ℕ) → Rise low next ks → low ≤ next
rise_bound low next [] rises = rises
rise_bound low next (k ∷ ks) rises = omega (arith, rises.0, rise_bound (k + 1) next ks rises.1)

pub rise_push : (low next : ℕ) (ks : List ℕ) → Rise low next ks → Rise low (next + 1) (ks ++ next ∷ [])
rise_push low next ks rises = rise_append low next (next + 1) ks (next ∷ []) rises (omega arith, omega arith)

pub rise_tail : (next k : ℕ) (ks : List ℕ) → Rise 0 next (k ∷ ks) → Rise 0 next ks
rise_tail next k ks rises = rise_from (k + 1) 0 next ks (omega arith) rises.1

pub above : (low next : ℕ) (ks : List ℕ) → Rise low next ks → All (λ (i : ℕ). low ≤ i) ks
above low next [] rises = All-nil (λ (i : ℕ). low ≤ i)
above low next (k ∷ ks) rises = All-cons (λ (i : ℕ). low ≤ i) k ks rises.0 (All-weaker (λ (i : ℕ). k + 1 ≤ i) (λ (i : ℕ). low ≤ i) (λ i more. omega (arith, more, rises.0)) ks (above (k + 1) next ks rises.1))

pub reaches : (low next k : ℕ) (front behind : List ℕ) → Rise low next (front ++ k ∷ behind) → low ≤ k
reaches low next k [] behind rises = rises.0
reaches low next k (i ∷ front) behind rises = omega (arith, rises.0, reaches (i + 1) next k front behind rises.1)

pub distinct : (low next k : ℕ) (front behind : List ℕ) → Rise low next (front ++ k ∷ behind) → All (λ (i : ℕ). i < k) front × All (λ (i : ℕ). k < i) behind
distinct low next k [] behind rises = (All-nil (λ (i : ℕ). i < k), All-weaker (λ (i : ℕ). k + 1 ≤ i) (λ (i : ℕ). k < i) (λ i more. omega (arith, more)) behind (above (k + 1) next behind rises.1))
distinct low next k (i ∷ front) behind rises =
    let rest = distinct (i + 1) next k front behind rises.1 in
    (All-cons (λ (i : ℕ). i < k) i front (omega (arith, reaches (i + 1) next k front behind rises.1)) rest.0, rest.1)

pub numbered_later : (next later : ℕ) (w : Window) → next ≤ later → IsNumbered next w → IsNumbered later w
numbered_later next later w le numbered = record {
  jobs = rise_later 0 next later (job_numbers w.jobs) le numbered.jobs;
  waiting = numbered.waiting;
  unacknowledged = numbered.unacknowledged;
  room = omega (arith, numbered.room, le);
}

-- a capture
pub rise_jobs : (desk : Grid) (region : Points) (first : ℕ) (plan : List Planned) → Rise first (first + length plan) (job_numbers (jobs_of desk region first plan))
rise_jobs desk region first [] = omega arith
rise_jobs desk region first (p ∷ plan) = (omega arith, subst (λ (n : ℕ). Rise (first + 1) n (job_numbers (jobs_of desk region (first + 1) plan))) (omega arith) (rise_jobs desk region (first + 1) plan))

pub length_jobs : (desk : Grid) (region : Points) (first : ℕ) (plan : List Planned) → length (jobs_of desk region first plan) ≡ length plan
length_jobs desk region first [] = refl
length_jobs desk region first (p ∷ plan) = ap (λ (n : ℕ). suc n) (length_jobs desk region (first + 1) plan)

numbered_captured : (next : ℕ) (plan : List Planned) (first : ℕ) (w : Window) → next ≤ first → IsNumbered next w → IsNumbered (first + length plan) (captured plan first w)
numbered_captured next plan first w from numbered = record {
  jobs = rw map-append (rise_append 0 first (first + length plan) (job_numbers w.jobs) (job_numbers (jobs_of w.desk (region_taken w) first plan))
      (rise_later 0 next first (job_numbers w.jobs) from numbered.jobs) (rise_jobs w.desk (region_taken w) first plan));
  waiting = numbered.waiting;
  unacknowledged = numbered.unacknowledged;
  room = rw (length-append, length_jobs w.desk (region_taken w) first plan) (omega (arith, numbered.room, from));
}

-- a filing
pub numbers-with_result : (jobs : List Job) (k : ℕ) → job_numbers (with_result jobs k) ≡ job_numbers jobs
numbers-with_result [] k = refl
numbers-with_result (j ∷ jobs) k = elim (cases_Bool (nat_eq j.number k)) [
  | inl same ↦ rw same refl
  | inr other ↦ rw other (ap (λ ks. j.number ∷ ks) (numbers-with_result jobs k))
]

length-with_result : (jobs : List Job) (k : ℕ) → length (with_result jobs k) ≡ length jobs
length-with_result [] k = refl
length-with_result (j ∷ jobs) k = elim (cases_Bool (nat_eq j.number k)) [
  | inl same ↦ rw same refl
  | inr other ↦ rw other (ap (λ (n : ℕ). suc n) (length-with_result jobs k))
]

pub draws-append : (packets more : List Packet) → draws_of (packets ++ more) ≡ draws_of packets ++ draws_of more
draws-append [] more = refl
draws-append (NewWindow w h ∷ packets) more = draws-append packets more
draws-append (WindowResized w h ∷ packets) more = draws-append packets more
draws-append (Draws d ∷ packets) more = ap (λ ds. d ∷ ds) (draws-append packets more)

numbered_queued : (next now : ℕ) (j : Job) (jobs : List Job) (w : Window) → IsNumbered next (record w { jobs = j ∷ jobs }) → IsNumbered next (record (queued now j w) { jobs = jobs })
numbered_queued next now j jobs w numbered = record {
  jobs = rise_tail next j.number (job_numbers jobs) numbered.jobs;
  waiting = rw (draws-append, map-append) (rise_push 0 w.next_sequence (draw_numbers w.packets) numbered.waiting);
  unacknowledged = rw map-append (rise_push 0 w.next_sequence (sent_numbers w.unacknowledged) numbered.unacknowledged);
  room = omega (arith, numbered.room);
}

pub numbered_ready : (next now : ℕ) (jobs : List Job) (w : Window) → IsNumbered next (record w { jobs = jobs }) → IsNumbered next (queue_ready now jobs w)
numbered_ready next now [] w numbered = numbered
numbered_ready next now (j ∷ jobs) w numbered = which j.encoded (numbered_ready next now jobs (queued now j w) (numbered_queued next now j jobs w numbered))
  where
    which : (b : Bool) → IsNumbered next (queue_ready now jobs (queued now j w)) → IsNumbered next (cond b (queue_ready now jobs (queued now j w)) (record w { jobs = j ∷ jobs }))
    which true left = left
    which false left = numbered

pub numbered_filed : (next : ℕ) (f : Filing) (k now : ℕ) (w : Window) → IsNumbered next w → IsNumbered next (filed_as f k now w)
numbered_filed next Late k now w numbered = numbered
numbered_filed next Foreign k now w numbered = numbered
numbered_filed next Filed k now w numbered = numbered_ready next now (with_result w.jobs k) w (record {
  jobs = rw (numbers-with_result w.jobs k) numbered.jobs;
  waiting = numbered.waiting;
  unacknowledged = numbered.unacknowledged;
  room = rw (length-with_result w.jobs k) numbered.room;
})

-- writing, and acknowledgements
numbered_front : (next : ℕ) (lossy_shows : ℕ → ℕ) (packets : List Packet) (w : Window) → w.packets ≡ packets → IsNumbered next w → IsNumbered next (written_front lossy_shows packets w)
numbered_front next lossy_shows [] w is numbered = numbered
numbered_front next lossy_shows (p ∷ packets) w is numbered = record {
  jobs = numbered.jobs;
  waiting = front p (rw is at numbered.waiting);
  unacknowledged = numbered.unacknowledged;
  room = numbered.room;
}
  where
    front : (q : Packet) → Rise 0 w.next_sequence (draw_numbers (q ∷ packets)) → Rise 0 w.next_sequence (draw_numbers packets)
    front (NewWindow a b) rises = rises
    front (WindowResized a b) rises = rises
    front (Draws d) rises = rise_tail w.next_sequence d.sequence (draw_numbers packets) rises

pub rise_without : (low next : ℕ) (sent : List Sent) (k : ℕ) → Rise low next (sent_numbers sent) → Rise low next (sent_numbers (without_sent sent k))
rise_without low next [] k rises = rises
rise_without low next (s ∷ sent) k rises = which (cases_Bool (nat_eq s.sequence k)) (rise_without (s.sequence + 1) next sent k rises.1)
  where
    which : (nat_eq s.sequence k ≡ true) ⊎ (nat_eq s.sequence k ≡ false) → Rise (s.sequence + 1) next (sent_numbers (without_sent sent k)) → Rise low next (sent_numbers (without_sent (s ∷ sent) k))
    which (inl same) rest = rw same (rise_from (s.sequence + 1) low next (sent_numbers sent) (omega (arith, rises.0)) rises.1)
    which (inr other) rest = rw other (rises.0, rest)

numbered_acknowledged : (next : ℕ) (o : Option Rectangle) (k : ℕ) (negative : Bool) (now : ℕ) (w : Window) → IsNumbered next w → IsNumbered next (acknowledged_as o k negative now w)
numbered_acknowledged next None k negative now w numbered = numbered
numbered_acknowledged next (Some r) k true now w numbered = record { jobs = numbered.jobs; waiting = numbered.waiting; unacknowledged = rise_without 0 w.next_sequence w.unacknowledged k numbered.unacknowledged; room = numbered.room }
numbered_acknowledged next (Some r) k false now w numbered = record { jobs = numbered.jobs; waiting = numbered.waiting; unacknowledged = rise_without 0 w.next_sequence w.unacknowledged k numbered.unacknowledged; room = numbered.room }

-- cancelling
numbered_given_back : (next now : ℕ) (w : Window) → IsNumbered next w → IsNumbered next (given_back now w)
numbered_given_back next now w numbered = record { jobs = omega arith; waiting = numbered.waiting; unacknowledged = numbered.unacknowledged; room = omega (arith, numbered.room) }

numbered_marked : (next : ℕ) (mapped : Bool) (w : Window) → IsNumbered next w → IsNumbered next (record w { mapped = mapped })
numbered_marked next mapped w numbered = record { jobs = numbered.jobs; waiting = numbered.waiting; unacknowledged = numbered.unacknowledged; room = numbered.room }

pub numbers-with_relief : (w h : ℕ) (kept : ℕ → ℕ → Bool) (packets : List Packet) → draw_numbers (map (with_relief w h kept) packets ++ WindowResized w h ∷ []) ≡ draw_numbers packets
numbers-with_relief w h kept [] = refl
numbers-with_relief w h kept (NewWindow a b ∷ packets) = numbers-with_relief w h kept packets
numbers-with_relief w h kept (WindowResized a b ∷ packets) = numbers-with_relief w h kept packets
numbers-with_relief w h kept (Draws d ∷ packets) = ap (λ ks. d.sequence ∷ ks) (numbers-with_relief w h kept packets)

numbered_resized : (next w h now : ℕ) (old : Window) → IsNumbered next old → IsNumbered next (resized w h now old)
numbered_resized next w h now old numbered = record {
  jobs = omega arith;
  waiting = rw numbers-with_relief numbered.waiting;
  unacknowledged = numbered.unacknowledged;
  room = omega (arith, numbered.room);
}

numbered_unmapped : (next now : ℕ) (w : Window) → IsNumbered next w → (b : Bool) → IsNumbered next (cond b (record (given_back now w) { mapped = false }) w)
numbered_unmapped next now w numbered true = numbered_marked next false (given_back now w) (numbered_given_back next now w numbered)
numbered_unmapped next now w numbered false = numbered

numbered_started : (next : ℕ) (desk : Grid) (now : ℕ) → 1 ≤ next → IsNumbered next (started desk now)
numbered_started next desk now some = record { jobs = omega arith; waiting = omega arith; unacknowledged = omega arith; room = omega (arith, some) }

-- what the numbering speaks of stays as it was
numbered_as : (next : ℕ) (v w : Window) → v.jobs ≡ w.jobs → v.packets ≡ w.packets → v.unacknowledged ≡ w.unacknowledged → v.next_sequence ≡ w.next_sequence → IsNumbered next w → IsNumbered next v
numbered_as next v w jobs packets unacknowledged sequence numbered = record {
  jobs = rw jobs numbered.jobs;
  waiting = rw (packets, sequence) numbered.waiting;
  unacknowledged = rw (unacknowledged, sequence) numbered.unacknowledged;
  room = rw (jobs, sequence) numbered.room;
}

numbered_changed : (lossy_shows : ℕ → ℕ) (next : ℕ) (e : Event) (w : Window) → NumbersFrom next e → IsNumbered next w → NumberedWhereThere (next_after next e) (changed lossy_shows e w)
numbered_changed lossy_shows next (Start desk now) w from numbered = numbered
numbered_changed lossy_shows next (Paint r numbers now) w from numbered = numbered_as next _ w refl refl refl refl numbered
numbered_changed lossy_shows next (Capture plan first) w from numbered = numbered_captured next plan first w from numbered
numbered_changed lossy_shows next (File k capture now) w from numbered = numbered_filed next (filing_of (capture_of w.jobs k) capture) k now w numbered
numbered_changed lossy_shows next (Write true) w from numbered = numbered_front next lossy_shows w.packets w refl numbered
numbered_changed lossy_shows next (Write false) w from numbered = numbered
numbered_changed lossy_shows next (Acknowledge k negative now) w from numbered = numbered_acknowledged next (rect_sent w.unacknowledged k) k negative now w numbered
numbered_changed lossy_shows next MapWindow w from numbered = numbered_marked next true w numbered
numbered_changed lossy_shows next (UnmapWindow now) w from numbered = numbered_unmapped next now w numbered w.mapped
numbered_changed lossy_shows next (Recall now) w from numbered = numbered_given_back next now w numbered
numbered_changed lossy_shows next (Resize wide high now) w from numbered = numbered_resized next wide high now w numbered
numbered_changed lossy_shows next (BufferRefresh now) w from numbered = numbered_as next _ w refl refl refl refl numbered
numbered_changed lossy_shows next Close w from numbered = tt

pub numbered_step : (lossy_shows : ℕ → ℕ) (next : ℕ) (o : Option Window) (e : Event) → 1 ≤ next → NumbersFrom next e → NumberedWhereThere next o → NumberedWhereThere (next_after next e) (step lossy_shows o e)
numbered_step lossy_shows next (Some w) e some from numbered = numbered_changed lossy_shows next e w from numbered
numbered_step lossy_shows next None (Start desk now) some from numbered = numbered_started next desk now some
numbered_step lossy_shows next None (Paint r numbers now) some from numbered = tt
numbered_step lossy_shows next None (Capture plan first) some from numbered = tt
numbered_step lossy_shows next None (File k capture now) some from numbered = tt
numbered_step lossy_shows next None (Write wholly) some from numbered = tt
numbered_step lossy_shows next None (Acknowledge k negative now) some from numbered = tt
numbered_step lossy_shows next None MapWindow some from numbered = tt
numbered_step lossy_shows next None (UnmapWindow now) some from numbered = tt
numbered_step lossy_shows next None (Recall now) some from numbered = tt
numbered_step lossy_shows next None (Resize wide high now) some from numbered = tt
numbered_step lossy_shows next None (BufferRefresh now) some from numbered = tt
numbered_step lossy_shows next None Close some from numbered = tt
