-- Statements that are near to the laws of numbers, of times and of rest, and wrong. Each is refuted by a window that is computed.
use Rattle.std.proofs.Common.{◌≡◌, ℕ, zero, suc, ◌+◌, ◌-◌, ◌<◌, ◌≤◌, Bool, true, false, ◌&&◌, ◌||◌, List, [], ◌∷◌, Option, Some, None, map, length, refl, sym, ap, ◌∙◌, subst, arith}
use Rattle.std.specs.Prelude.{All, replicate, nat_eq, max, ◌^◌}
use Rattle.std.specs.List.{list_any}
use Rattle.std.proofs.lemmas.Bool.{false≢true}
use Rattle.std.proofs.lemmas.Bool.Decides.{nat_tests}
use Rattle.std.proofs.lemmas.List.Elements.{All-nil, All-cons}
use Rattle.xp_base.specs.Points.{is_within}
use Rattle.delivery_model.specs.Grids.{each_point, has, number, number_in}
use Rattle.delivery_model.specs.Window.{Job, Packet, NewWindow, Sent, Window}
use Rattle.delivery_model.specs.Events.{is_empty, same_capture, started, acknowledged, load, Event, Start, Capture, Write, step}
use Rattle.delivery_model.specs.Refusals.{is_clean, earliest, capture_answer, is_allowed}
use Rattle.delivery_model.specs.Plans.{IsCaptureOf}
use Rattle.delivery_model.specs.Point.{point_at, PointKept}
use Rattle.delivery_model.specs.Kept.{IsKept}
use Rattle.delivery_model.specs.Numbers.{Rise, IsNumbered, NumberedWhereThere, next_after, NumbersFrom}
use Rattle.delivery_model.specs.Owed.{owes}
use Rattle.delivery_model.specs.Laws.{KeptWhereThere}
use Rattle.delivery_model.proofs.Runs.{kept_run}
use Rattle.delivery_log.specs.Times.{IsTimed, TimedWhereThere}
use Rattle.delivery_log.specs.Rest.{is_none, is_idle, rest, rest_of, read, Result, file_all, write_all, Turn, turned, is_waiting, AllAcknowledged, FrontWaits, HaveResults, CameNearer, turned_all, IsQuiet, are_idle, AreQuiet, IsLeast}
use Rattle.delivery_log.proofs.Situations.{next_number, rect, exact, coarse, result, coarsely, black}
use Rattle.delivery_log.proofs.Neighbours.{end_of, pends, in_hand, repaired, lossy, pends_lossy_plan, never}

-- numbers that are not as they are
not_one : ◌≡◌ {A = ℕ} 1 0 → ⊥
not_one is = omega (arith, is)

too_far : (n m k : ℕ) → n ≡ m → n ≤ k → k < m → ⊥
too_far n m k is le less = omega (arith, is, le, less)

stays_two : (a b : ℕ) → a ≡ 2 → b ≡ 2 → a ≤ b - 1 → ⊥
stays_two a b after before le = omega (arith, after, before, le)

some_job : (j : Job) (jobs : List Job) → j ∷ jobs ≡ [] → ⊥
some_job j jobs is = absurd (cc is)

some_packet : (p : Packet) (packets : List Packet) → p ∷ packets ≡ [] → ⊥
some_packet p packets is = absurd (cc is)

-- windows of one point: all of it pending, its job in hand, its draw written, its lossy draw written
abbrev pending : Window
pending = end_of pends

abbrev handed : Window
handed = end_of in_hand

pending_numbered : IsNumbered 1 pending
pending_numbered = record { jobs = omega arith; waiting = omega arith; unacknowledged = omega arith; room = omega arith }

handed_numbered : IsNumbered 2 handed
handed_numbered = record { jobs = (omega arith, omega arith); waiting = omega arith; unacknowledged = omega arith; room = omega arith }

pending_kept : KeptWhereThere (Some pending)
pending_kept = kept_run next_number None pends (tt, (tt, (tt, tt))) tt

-- what the form of the invariant does not speak of
still_kept : (w : Window) (unacknowledged : List Sent) (next delay : ℕ) → IsKept w → IsKept (record w { unacknowledged = unacknowledged; next_sequence = next; delay = delay })
still_kept w unacknowledged next delay kept = record { sized = kept.sized; jobs = kept.jobs; packets = kept.packets; pending = kept.pending; lossy = kept.lossy; points = kept.points }

-- Beside the law that every event keeps the numbering. Wrong: that job numbers may begin at 0. The first sequence number is 1.
abbrev NumbersFromZero : Type 0
NumbersFromZero = (next : ℕ) (o : Option Window) (e : Event) → NumbersFrom next e → NumberedWhereThere next o → NumberedWhereThere (next_after next e) (step next_number o e)

not_from_zero : NumbersFromZero → ⊥
not_from_zero claim = never 1 0 (omega arith) (claim 0 None (Start (black 1 1) 0) tt tt).room

-- wrong: that captures need not number upwards
abbrev NumbersMayComeBack : Type 0
NumbersMayComeBack = (next : ℕ) (o : Option Window) (e : Event) → 1 ≤ next → NumberedWhereThere next o → NumberedWhereThere (next_after next e) (step next_number o e)

not_back : NumbersMayComeBack → ⊥
not_back claim = never 2 1 (omega arith) (claim 2 (Some handed) (Capture (exact (rect 0 0 1 1) ∷ []) 1) (omega arith) handed_numbered).jobs.1.0

-- wrong: that a sequence number is always left over
abbrev NumbersAreLeft : Type 0
NumbersAreLeft = (next : ℕ) (w : Window) → IsNumbered next w → w.next_sequence + length w.jobs < next

not_left : NumbersAreLeft → ⊥
not_left claim = never 2 1 (omega arith) (claim 1 pending pending_numbered)

-- Beside `every_event_keeps_the_times`. Wrong: that an event may be after the clock
abbrev EventsMayBeLater : Type 0
EventsMayBeLater = (clock : ℕ) (o : Option Window) (e : Event) → TimedWhereThere clock o → TimedWhereThere clock (step next_number o e)

not_later : EventsMayBeLater → ⊥
not_later claim = never 5 0 (omega arith) (claim 0 None (Start (black 1 1) 5) tt).pending

-- wrong: that the delay does not fall below the 20 milliseconds at which it starts
abbrev DelayStays : Type 0
DelayStays = (k now : ℕ) (w : Window) → 20 ≤ w.delay → 20 ≤ (acknowledged k false now w).delay

not_slow : DelayStays → ⊥
not_slow claim = never 20 15 (omega arith) (claim 1 0 (record pending { unacknowledged = record { sequence = 1; rect = rect 0 0 1 1 } ∷ [] }) (omega arith))

-- wrong: that the clock may go back
abbrev ClockMayGoBack : Type 0
ClockMayGoBack = (clock earlier : ℕ) (w : Window) → earlier ≤ clock → IsTimed clock w → IsTimed earlier w

abbrev pending_since_5 : Window
pending_since_5 = record pending { pending_since = 5 }

not_clock_back : ClockMayGoBack → ⊥
not_clock_back claim = never 5 4 (omega arith) (claim 5 4 pending_since_5 (omega arith) (record { pending = omega arith; lossy = omega arith; least = omega arith; greatest = omega arith })).pending

-- Beside `parts_of_a_turn`. Wrong: that 499 milliseconds make damage due
abbrev DueEarlier : Type 0
DueEarlier = (clock : ℕ) (w : Window) → IsTimed clock w → earliest w ≤ clock + 499

abbrev slow : Window
slow = record pending { delay = 500 }

slow_timed : IsTimed 0 slow
slow_timed = record { pending = omega arith; lossy = omega arith; least = omega arith; greatest = omega arith }

not_due_earlier : DueEarlier → ⊥
unfolding each_point has number number_in is_empty
not_due_earlier claim = never 500 499 (omega arith) (claim 0 slow slow_timed)

-- wrong: that a read takes the load of a window that has a job in hand
abbrev ReadingUnloadsAll : Type 0
ReadingUnloadsAll = (next t : ℕ) (ks : List ℕ) (w : Window) → IsNumbered next w → AllAcknowledged ks w → load (read t ks w) ≡ 0

not_unloaded : ReadingUnloadsAll → ⊥
not_unloaded claim = not_one (claim 2 0 [] handed handed_numbered (All-nil _))

-- wrong: that numbers play no part in it. An acknowledgement takes one draw, not all of its number.
abbrev ReadingNeedsNoNumbers : Type 0
ReadingNeedsNoNumbers = (t : ℕ) (ks : List ℕ) (w : Window) → is_idle w ≡ true → AllAcknowledged ks w → load (read t ks w) ≡ 0

abbrev sent_one : Sent
sent_one = record { sequence = 1; rect = rect 0 0 1 1 }

abbrev sent_twice : Window
sent_twice = record pending { unacknowledged = sent_one ∷ sent_one ∷ [] }

abbrev is_named : Sent → Type 0
is_named s = (is_waiting s.sequence sent_twice.packets || list_any (λ (k : ℕ). nat_eq k s.sequence) (1 ∷ [])) ≡ true

not_numberless : ReadingNeedsNoNumbers → ⊥
not_numberless claim = not_one (claim 0 (1 ∷ []) sent_twice refl (All-cons is_named sent_one (sent_one ∷ []) refl (All-cons is_named sent_one [] refl (All-nil is_named))))

abbrev has_result : List Result → Job → Type 0
has_result results j = (j.encoded || list_any (λ (r : Result). nat_eq r.number j.number && same_capture j.capture r.capture) results) ≡ true

-- wrong: that a job leaves whose result came before, without another filing
abbrev FilingNeedsNone : Type 0
FilingNeedsNone = (next now : ℕ) (results : List Result) (w : Window) → IsNumbered next w → HaveResults results w.jobs → (file_all now results w).jobs ≡ []

abbrev encoded_job : Job
encoded_job = record { number = 1; capture = result (rect 0 0 1 1) (0 ∷ []); relief = record { wide = 1; high = 1; marks = true ∷ [] }; encoded = true }

abbrev left_encoded : Window
left_encoded = record pending { jobs = encoded_job ∷ [] }

not_without_filing : FilingNeedsNone → ⊥
not_without_filing claim = some_job encoded_job [] (claim 2 0 [] left_encoded (record { jobs = (omega arith, omega arith); waiting = omega arith; unacknowledged = omega arith; room = omega arith }) (All-cons (has_result []) encoded_job [] refl (All-nil (has_result []))))

-- wrong: that a result counts by its number alone
abbrev NumbersAreResults : Type 0
NumbersAreResults = (next now : ℕ) (results : List Result) (w : Window) → IsNumbered next w → FrontWaits w.jobs
    → All (λ (j : Job). list_any (λ (r : Result). nat_eq r.number j.number) results ≡ true) w.jobs → (file_all now results w).jobs ≡ []

abbrev job_one : Job
job_one = record encoded_job { encoded = false }

abbrev left_waiting : Window
left_waiting = record pending { jobs = job_one ∷ [] }

abbrev foreign : Result
foreign = record { number = 1; capture = result (rect 0 0 1 1) (7 ∷ []) }

abbrev numbered_result : Job → Type 0
numbered_result j = list_any (λ (r : Result). nat_eq r.number j.number) (foreign ∷ []) ≡ true

not_by_number : NumbersAreResults → ⊥
not_by_number claim = some_job job_one [] (claim 2 0 (foreign ∷ []) left_waiting (record { jobs = (omega arith, omega arith); waiting = omega arith; unacknowledged = omega arith; room = omega arith }) refl (All-cons numbered_result job_one [] refl (All-nil numbered_result)))

-- wrong: that the results of the jobs from before a turn are enough. The turn's own capture has jobs too.
abbrev OldResultsEmpty : Type 0
OldResultsEmpty = (t : Turn) (w : Window) → 1 ≤ t.first → IsNumbered t.first w → FrontWaits w.jobs → HaveResults t.results w.jobs → (turned next_number t w).jobs ≡ []

-- a turn in which nothing is acknowledged, filed or written
abbrev idle_turn : ℕ → ℕ → Turn
idle_turn now first = record { acknowledged = []; read_at = 0; now = now; weight = 0; first = first; plan = exact (rect 0 0 1 1) ∷ []; results = []; writes = [] }

not_old_results : OldResultsEmpty → ⊥
unfolding each_point has number number_in is_empty
not_old_results claim = false≢true (ap (λ (jobs : List Job). is_none jobs) (claim (idle_turn 500 1) pending (omega arith) pending_numbered tt (All-nil (has_result []))))

-- wrong: that writes of parts leave no packet waiting
abbrev PartsEmpty : Type 0
PartsEmpty = (w : Window) → (write_all next_number (replicate (length w.packets) false) w).packets ≡ []

not_by_parts : PartsEmpty → ⊥
not_by_parts claim = some_packet (NewWindow 1 1) [] (claim (started (black 1 1) 0))

-- Beside `parts_of_a_turn_come_nearer`. Wrong: that a load of 64 allows a capture
abbrev LoadedIsAllowed : Type 0
LoadedIsAllowed = (now weight first : ℕ) (w : Window) → earliest w ≤ now → load w ≤ 64 → weight < 33_554_432 → first < 2 ^ 62 → w.mapped ≡ true → is_clean w ≡ false
    → is_allowed (capture_answer now weight first w) ≡ true

-- so many draws, numbered from here on
abbrev sent_from : ℕ → ℕ → List Sent
sent_from k zero = []
sent_from k (suc n) = record { sequence = k; rect = rect 0 0 1 1 } ∷ sent_from (k + 1) n

abbrev loaded : Window
loaded = record pending { unacknowledged = sent_from 1 64; next_sequence = 65 }

loaded_due : earliest loaded ≤ 500
unfolding each_point has number number_in is_empty
loaded_due = early
  where
    early : 20 ≤ 500
    early = omega arith

loaded_unclean : is_clean loaded ≡ false
unfolding each_point has number number_in is_empty
loaded_unclean = refl

loaded_refused : is_allowed (capture_answer 500 0 66 loaded) ≡ false
unfolding each_point has number number_in is_empty
loaded_refused = refl

not_loaded : LoadedIsAllowed → ⊥
not_loaded claim = false≢true (sym loaded_refused ∙ claim 500 0 66 loaded loaded_due full (omega arith) (omega arith) refl loaded_unclean)
  where
    full : 64 ≤ 64
    full = omega arith

-- wrong: that a weight of 33,554,432 does
abbrev HeavyIsAllowed : Type 0
HeavyIsAllowed = (now weight first : ℕ) (w : Window) → earliest w ≤ now → load w ≡ 0 → weight ≤ 33_554_432 → first < 2 ^ 62 → w.mapped ≡ true → is_clean w ≡ false
    → is_allowed (capture_answer now weight first w) ≡ true

pending_due : earliest pending ≤ 500
unfolding each_point has number number_in is_empty
pending_due = early
  where
    early : 20 ≤ 500
    early = omega arith

pending_unclean : is_clean pending ≡ false
unfolding each_point has number number_in is_empty
pending_unclean = refl

heavy_refused : is_allowed (capture_answer 500 33_554_432 1 pending) ≡ false
unfolding each_point has number number_in is_empty
heavy_refused = refl

not_heavy : HeavyIsAllowed → ⊥
not_heavy claim = false≢true (sym heavy_refused ∙ claim 500 33_554_432 1 pending pending_due refl (omega arith) (omega arith) refl pending_unclean)

-- wrong: that the end of a turn is at 1 whatever was pending
abbrev EndsAtOne : Type 0
EndsAtOne = (now : ℕ) (results : List Result) (writes : List Bool) (w : Window) → (write_all next_number writes (file_all now results w)).jobs ≡ [] → (write_all next_number writes (file_all now results w)).packets ≡ []
    → rest (write_all next_number writes (file_all now results w)) ≤ 1

pending_rest : rest pending ≡ 2
unfolding each_point has number number_in is_empty
pending_rest = refl

not_at_one : EndsAtOne → ⊥
not_at_one claim = too_far (rest pending) 2 1 pending_rest (claim 0 [] [] pending refl refl) (omega arith)

-- Beside `quiet_turns_rest`. Wrong: that draws need not be acknowledged. Where 64 are not, the capture is refused.
abbrev CongestedTurnsRest : Type 0
CongestedTurnsRest = (clock : ℕ) (t : Turn) (w : Window) → IsKept w → IsNumbered t.first w → IsTimed clock w → clock + 500 ≤ t.now → t.weight < 33_554_432 → t.first < 2 ^ 62
    → (is_allowed (capture_answer t.now t.weight t.first (read t.read_at t.acknowledged w)) ≡ true → IsCaptureOf (read t.read_at t.acknowledged w) t.plan)
    → (turned next_number t w).jobs ≡ [] → (turned next_number t w).packets ≡ [] → rest (turned next_number t w) ≤ rest w - 1

rises_from : (k n : ℕ) → Rise k (k + n) (map (λ (s : Sent). s.sequence) (sent_from k n))
rises_from k zero = omega arith
rises_from k (suc n) = (omega arith, subst (λ (m : ℕ). Rise (k + 1) m (map (λ (s : Sent). s.sequence) (sent_from (k + 1) n))) (omega arith) (rises_from (k + 1) n))

loaded_numbered : IsNumbered 66 loaded
loaded_numbered = record {
  jobs = omega arith;
  waiting = omega arith;
  unacknowledged = (omega arith, rises_from 2 63);
  room = omega arith;
}

loaded_rests : (rest loaded ≡ 2) × (rest (turned next_number (idle_turn 500 66) loaded) ≡ 2)
unfolding each_point has number number_in is_empty
loaded_rests = (refl, refl)

loaded_idle : ((turned next_number (idle_turn 500 66) loaded).jobs ≡ []) × ((turned next_number (idle_turn 500 66) loaded).packets ≡ [])
unfolding each_point has number number_in is_empty
loaded_idle = (refl, refl)

not_congested : CongestedTurnsRest → ⊥
not_congested claim = stays_two (rest (turned next_number (idle_turn 500 66) loaded)) (rest loaded) loaded_rests.1 loaded_rests.0 (claim 0 (idle_turn 500 66) loaded (still_kept pending (sent_from 1 64) 65 20 pending_kept) loaded_numbered
    (record { pending = omega arith; lossy = omega arith; least = omega arith; greatest = omega arith }) (omega arith) (omega arith) (omega arith)
    (λ allowed. absurd (false≢true (sym loaded_refused ∙ allowed))) loaded_idle.0 loaded_idle.1)

-- wrong: that the connection's weight plays no part. Where other windows of the client were captured before, it may refuse.
abbrev HeavyTurnsRest : Type 0
HeavyTurnsRest = (clock : ℕ) (t : Turn) (w : Window) → IsKept w → IsNumbered t.first w → IsTimed clock w → clock + 500 ≤ t.now → AllAcknowledged t.acknowledged w → t.first < 2 ^ 62
    → (is_allowed (capture_answer t.now t.weight t.first (read t.read_at t.acknowledged w)) ≡ true → IsCaptureOf (read t.read_at t.acknowledged w) t.plan)
    → (turned next_number t w).jobs ≡ [] → (turned next_number t w).packets ≡ [] → rest (turned next_number t w) ≤ rest w - 1

abbrev heavy_turn : Turn
heavy_turn = record (idle_turn 500 1) { weight = 33_554_432 }

heavy_rests : rest (turned next_number heavy_turn pending) ≡ 2
unfolding each_point has number number_in is_empty
heavy_rests = refl

heavy_idle : ((turned next_number heavy_turn pending).jobs ≡ []) × ((turned next_number heavy_turn pending).packets ≡ [])
unfolding each_point has number number_in is_empty
heavy_idle = (refl, refl)

not_heavy_turn : HeavyTurnsRest → ⊥
not_heavy_turn claim = stays_two (rest (turned next_number heavy_turn pending)) (rest pending) heavy_rests pending_rest (claim 0 heavy_turn pending pending_kept pending_numbered
    (record { pending = omega arith; lossy = omega arith; least = omega arith; greatest = omega arith }) (omega arith) (All-nil _) (omega arith)
    (λ allowed. absurd (false≢true (sym heavy_refused ∙ allowed))) heavy_idle.0 heavy_idle.1)

-- wrong: that 250 milliseconds are enough
abbrev ShortTurnsRest : Type 0
ShortTurnsRest = (clock : ℕ) (t : Turn) (w : Window) → IsKept w → IsNumbered t.first w → IsTimed clock w → clock + 250 ≤ t.now → AllAcknowledged t.acknowledged w → t.weight < 33_554_432 → t.first < 2 ^ 62
    → (is_allowed (capture_answer t.now t.weight t.first (read t.read_at t.acknowledged w)) ≡ true → IsCaptureOf (read t.read_at t.acknowledged w) t.plan)
    → (turned next_number t w).jobs ≡ [] → (turned next_number t w).packets ≡ [] → rest (turned next_number t w) ≤ rest w - 1

slow_refused : is_allowed (capture_answer 250 0 1 slow) ≡ false
unfolding each_point has number number_in is_empty
slow_refused = refl

slow_rests : (rest slow ≡ 2) × (rest (turned next_number (idle_turn 250 1) slow) ≡ 2)
unfolding each_point has number number_in is_empty
slow_rests = (refl, refl)

slow_idle : ((turned next_number (idle_turn 250 1) slow).jobs ≡ []) × ((turned next_number (idle_turn 250 1) slow).packets ≡ [])
unfolding each_point has number number_in is_empty
slow_idle = (refl, refl)

not_short : ShortTurnsRest → ⊥
not_short claim = stays_two (rest (turned next_number (idle_turn 250 1) slow)) (rest slow) slow_rests.1 slow_rests.0 (claim 0 (idle_turn 250 1) slow (still_kept pending [] 1 500 pending_kept)
    (record { jobs = omega arith; waiting = omega arith; unacknowledged = omega arith; room = omega arith }) slow_timed (omega arith) (All-nil _) (omega arith) (omega arith)
    (λ allowed. absurd (false≢true (sym slow_refused ∙ allowed))) slow_idle.0 slow_idle.1)

-- wrong: that one quiet turn is enough. A lossy draw is repaired by the next.
abbrev OneTurnRests : Type 0
OneTurnRests = (clock : ℕ) (t : Turn) (w : Window) → IsQuiet next_number clock (is_idle w) t w → rest (turned next_number t w) ≡ 0

abbrev lossy_turn : Turn
lossy_turn = record {
  acknowledged = [];
  read_at = 0;
  now = 500;
  weight = 0;
  first = 1;
  plan = coarse (rect 0 0 1 1) ∷ [];
  results = record { number = 1; capture = coarsely (rect 0 0 1 1) (0 ∷ []) } ∷ [];
  writes = true ∷ [];
}

lossy_turned : ((turned next_number lossy_turn pending).jobs ≡ []) × (((turned next_number lossy_turn pending).packets ≡ []) × (rest (turned next_number lossy_turn pending) ≡ 1))
unfolding each_point has number number_in is_empty
lossy_turned = (refl, (refl, refl))

lossy_quiet : IsQuiet next_number 0 true lossy_turn pending
lossy_quiet = record {
  kept = pending_kept;
  numbered = pending_numbered;
  timed = record { pending = omega arith; lossy = omega arith; least = omega arith; greatest = omega arith };
  ticked = omega arith;
  acknowledged = All-nil _;
  light = λ idle. omega arith;
  numbers = omega arith;
  planned = λ allowed. pends_lossy_plan;
  filed = lossy_turned.0;
  written = lossy_turned.1.0;
}

not_one_turn : OneTurnRests → ⊥
not_one_turn claim = not_one (sym lossy_turned.1.1 ∙ claim 0 lossy_turn pending lossy_quiet)

-- Beside `clients_rest`. Wrong: that the first window's quiet turn is enough
abbrev OneWindowRests : Type 0
OneWindowRests = (others : Bool) (v w : Window) (ws : List Window) → rest v ≤ rest w - 1 → rest_of false (v ∷ ws) ≤ rest_of others (w ∷ ws) - 1

resting : rest (end_of repaired) ≡ 0
unfolding each_point has number number_in is_empty
resting = refl

not_one_window : OneWindowRests → ⊥
not_one_window claim = still_two (rest (end_of repaired)) (rest pending) resting pending_rest (claim false (end_of repaired) (end_of repaired) (pending ∷ []) (at_rest (rest (end_of repaired)) resting))
  where
    at_rest : (a : ℕ) → a ≡ 0 → a ≤ a - 1
    at_rest a is = omega (arith, is)

    still_two : (a b : ℕ) → a ≡ 0 → b ≡ 2 → max a (max b 0) ≤ max a (max b 0) - 1 → ⊥
    still_two a b none two le = omega (arith, none, two, le)

-- wrong: that each window of a client comes nearer by itself. Where others of them are busy, the weight may refuse its capture; it is
-- the client that comes nearer then.
abbrev EachComesNearer : Type 0
EachComesNearer = (clock : ℕ) (ts : List Turn) (others : Bool) (ws : List Window) → AreQuiet next_number clock (are_idle others ws) ts ws → CameNearer ws (turned_all next_number ts ws)

heavy_quiet : IsQuiet next_number 0 false heavy_turn pending
heavy_quiet = record {
  kept = pending_kept;
  numbered = pending_numbered;
  timed = record { pending = omega arith; lossy = omega arith; least = omega arith; greatest = omega arith };
  ticked = omega arith;
  acknowledged = All-nil _;
  light = λ idle. absurd (false≢true idle);
  numbers = omega arith;
  planned = λ allowed. absurd (false≢true (sym heavy_refused ∙ allowed));
  filed = heavy_idle.0;
  written = heavy_idle.1;
}

not_each : EachComesNearer → ⊥
not_each claim = stays_two (rest (turned next_number heavy_turn pending)) (rest pending) heavy_rests pending_rest (claim 0 (heavy_turn ∷ []) true (pending ∷ []) (heavy_quiet, tt)).0

-- wrong: that a packet on none of the windows may still wait
abbrev OthersMayWait : Type 0
OthersMayWait = (others : Bool) (before after : List Window) → CameNearer before after → rest_of others after ≤ rest_of others before - 1

not_others : OthersMayWait → ⊥
not_others claim = never 3 2 (omega arith) (claim true [] [] tt)

-- wrong: that two quiet turns are enough, for a client as for a window: two nearer is not what one turn brings
abbrev TwoNearer : Type 0
TwoNearer = (others : Bool) (before after : List Window) → CameNearer before after → rest_of false after ≤ rest_of others before - 2

not_two_nearer : TwoNearer → ⊥
not_two_nearer claim = one_nearer (rest (turned next_number lossy_turn pending)) (rest pending) lossy_turned.1.1 pending_rest
    (claim false (pending ∷ []) (turned next_number lossy_turn pending ∷ []) (came (rest (turned next_number lossy_turn pending)) (rest pending) lossy_turned.1.1 pending_rest, tt))
  where
    came : (a b : ℕ) → a ≡ 1 → b ≡ 2 → a ≤ b - 1
    came a b after before = omega (arith, after, before)

    one_nearer : (a b : ℕ) → a ≡ 1 → b ≡ 2 → max a 0 ≤ max b 0 - 2 → ⊥
    one_nearer a b after before le = omega (arith, after, before, le)

-- Beside `rest_is_the_least_of_its_table`. Wrong: that the form of the invariant is enough. It does not say that the pending points have
-- no mark beyond the window; by such a mark the set is not empty though no point is pending.
abbrev FormIsEnough : Type 0
FormIsEnough = (w : Window) → IsKept w → IsLeast w

abbrev beyond : Window
beyond = record (end_of lossy) { pending = record { wide = 1; high = 1; marks = false ∷ true ∷ [] } }

lossy_kept : KeptWhereThere (Some (end_of lossy))
lossy_kept = kept_run next_number None lossy (tt, (tt, (tt, (pends_lossy_plan, (tt, (tt, tt)))))) tt

beyond_here : PointKept (point_at beyond 0 0)
unfolding each_point has number number_in is_empty
beyond_here = lossy_kept.points 0 0 refl

beyond_kept : IsKept beyond
unfolding each_point has number number_in is_empty
beyond_kept = record { sized = lossy_kept.sized; jobs = lossy_kept.jobs; packets = lossy_kept.packets; pending = record { wide = refl; high = refl }; lossy = lossy_kept.lossy; points = at }
  where
    at : (x y : ℕ) → is_within 1 1 x y ≡ true → PointKept (point_at beyond x y)
    at zero zero within = beyond_here
    at zero (suc y) within = absurd (false≢true (grind (arith, nat_tests, within)))
    at (suc x) y within = absurd (false≢true (grind (arith, nat_tests, within)))

beyond_rest : (rest beyond ≡ 2) × ((is_idle beyond ≡ true) × (has beyond.pending 0 0 ≡ false))
unfolding each_point has number number_in is_empty
beyond_rest = (refl, (refl, refl))

not_form : FormIsEnough → ⊥
unfolding each_point has number number_in is_empty
not_form claim = too_far (rest beyond) 2 1 beyond_rest.0 ((claim beyond beyond_kept).at_one.1 (beyond_rest.1.0, λ mapped x y within. none x y within)) (omega arith)
  where
    none : (x y : ℕ) → is_within 1 1 x y ≡ true → has beyond.pending x y ≡ false
    none zero zero within = beyond_rest.1.1
    none zero (suc y) within = absurd (false≢true (grind (arith, nat_tests, within)))
    none (suc x) y within = absurd (false≢true (grind (arith, nat_tests, within)))

-- wrong: that a window at rest owes nothing, mapped or not
abbrev UnmappedOwesNothing : Type 0
UnmappedOwesNothing = (w : Window) → rest w ≡ 0 → (x y : ℕ) → owes (Some w) x y ≡ false

abbrev unmapped : Window
unmapped = end_of (Start (black 1 1) 0 ∷ Write true ∷ [])

not_unmapped : UnmappedOwesNothing → ⊥
unfolding each_point has number number_in is_empty
not_unmapped claim = false≢true (sym (claim unmapped refl 0 0))
