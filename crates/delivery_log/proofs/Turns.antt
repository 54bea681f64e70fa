-- A quiet turn brings a window nearer to rest.
use Rattle.std.proofs.Common.{◌≡◌, ◌⊎◌, inl, inr, ℕ, ◌+◌, ◌-◌, ◌<◌, ◌≤◌, Bool, true, false, not, ◌&&◌, ◌||◌, List, [], ◌∷◌, ◌++◌, Option, Some, None, cond, refl, sym, ap, ◌∙◌, subst, arith}
use Rattle.std.specs.Prelude.{All, nat_eq, nat_lt, nat_le, max, ◌^◌}
use Rattle.std.specs.List.{list_any}
use Rattle.std.proofs.lemmas.Bool.{cases_Bool, and_parts, and_from, not-true, ltb-true, false_from_ne_true, false≢true}
use Rattle.std.proofs.lemmas.Bool.Decides.{nat_tests}
use Rattle.std.proofs.lemmas.List.Elements.{All-nil, All-cons, All-head, All-tail}
use Rattle.xp_base.specs.declared.coding.Coding.TheVariants as C
use Rattle.xp_base.specs.Points.{Rectangle, is_in, is_within}
use Rattle.delivery_model.specs.Grids.{Points, Grid, has, points}
use Rattle.delivery_model.specs.Window.{Job, Packet, Window}
use Rattle.delivery_model.specs.Events.{is_empty, Planned, region_taken, jobs_of, load, captured, queued, queue_ready, with_result, capture_of, Filing, Late, Foreign, Filed, filing_of, filed_as, filed, written_front, written, rect_sent, acknowledged, File, Write, Acknowledge, Capture}
use Rattle.delivery_model.specs.Refusals.{is_clean, earliest, capture_answer, is_allowed, captured_where}
use Rattle.delivery_model.specs.Owed.{is_owed, owes}
use Rattle.delivery_model.specs.Plans.{IsPlan, IsCaptureOf}
use Rattle.delivery_model.specs.Changes.{owed_acknowledged, owed_without_front}
use Rattle.delivery_model.specs.Kept.{IsKept}
use Rattle.delivery_model.proofs.Grids.{has-points_within, has-empty, empty-has_none, none-is_empty}
use Rattle.delivery_model.proofs.Runs.{kept_changed}
use Rattle.delivery_model.proofs.OwedSteps.{owed_changed}
use Rattle.delivery_log.specs.Rest.{is_idle, owes_nothing, rest, greatest_rest, rest_of, read, Result, file_all, write_all, Turn, IsQuiet, CameNearer}
use Rattle.delivery_log.proofs.TimeSteps.{due_after}
use Rattle.delivery_log.proofs.Reading.{ReadsAs, idle_parts, idle_from, read_reads, read_timed, reading_unloads}

-- what filings and writes leave as it is
pub record StaysAs (v w : Window) : Type 0 where
  pub desk : v.desk ≡ w.desk
  pub pending : v.pending ≡ w.pending
  pub mapped : v.mapped ≡ w.mapped

stays_refl : (w : Window) → StaysAs w w
stays_refl w = record { desk = refl; pending = refl; mapped = refl }

pub stays_trans : (u v w : Window) → StaysAs u v → StaysAs v w → StaysAs u w
stays_trans u v w a b = record { desk = a.desk ∙ b.desk; pending = a.pending ∙ b.pending; mapped = a.mapped ∙ b.mapped }

ready_stays : (now : ℕ) (jobs : List Job) (w : Window) → StaysAs (queue_ready now jobs w) w
ready_stays now [] w = record { desk = refl; pending = refl; mapped = refl }
ready_stays now (j ∷ jobs) w = which j.encoded (ready_stays now jobs (queued now j w))
  where
    which : (b : Bool) → StaysAs (queue_ready now jobs (queued now j w)) (queued now j w) → StaysAs (cond b (queue_ready now jobs (queued now j w)) (record w { jobs = j ∷ jobs })) w
    which true rest = record { desk = rest.desk; pending = rest.pending; mapped = rest.mapped }
    which false rest = record { desk = refl; pending = refl; mapped = refl }

pub filed_stays : (f : Filing) (k now : ℕ) (w : Window) → StaysAs (filed_as f k now w) w
filed_stays Late k now w = stays_refl w
filed_stays Foreign k now w = stays_refl w
filed_stays Filed k now w = ready_stays now (with_result w.jobs k) w

pub file_all_stays : (now : ℕ) (results : List Result) (w : Window) → StaysAs (file_all now results w) w
file_all_stays now [] w = stays_refl w
file_all_stays now (r ∷ results) w = stays_trans (file_all now results (filed r.number r.capture now w)) (filed r.number r.capture now w) w (file_all_stays now results (filed r.number r.capture now w)) (filed_stays (filing_of (capture_of w.jobs r.number) r.capture) r.number now w)

-- writes leave jobs and lossy points as they are too
pub record WritesAs (v w : Window) : Type 0 where
  pub stays : StaysAs v w
  pub jobs : v.jobs ≡ w.jobs
  pub lossy : v.lossy ≡ w.lossy

pub front_writes : (lossy_shows : ℕ → ℕ) (packets : List Packet) (w : Window) → WritesAs (written_front lossy_shows packets w) w
front_writes lossy_shows [] w = record { stays = stays_refl w; jobs = refl; lossy = refl }
front_writes lossy_shows (p ∷ packets) w = record { stays = record { desk = refl; pending = refl; mapped = refl }; jobs = refl; lossy = refl }

written_writes : (lossy_shows : ℕ → ℕ) (wholly : Bool) (w : Window) → WritesAs (written lossy_shows wholly w) w
written_writes lossy_shows true w = front_writes lossy_shows w.packets w
written_writes lossy_shows false w = record { stays = stays_refl w; jobs = refl; lossy = refl }

pub write_all_writes : (lossy_shows : ℕ → ℕ) (writes : List Bool) (w : Window) → WritesAs (write_all lossy_shows writes w) w
write_all_writes lossy_shows [] w = record { stays = stays_refl w; jobs = refl; lossy = refl }
write_all_writes lossy_shows (b ∷ writes) w =
    let first = written_writes lossy_shows b w in
    let more = write_all_writes lossy_shows writes (written lossy_shows b w) in
    record { stays = stays_trans (write_all lossy_shows writes (written lossy_shows b w)) (written lossy_shows b w) w more.stays first.stays; jobs = more.jobs ∙ first.jobs; lossy = more.lossy ∙ first.lossy }

-- what is owed gets less
abbrev OwesLess : Window → Window → Type 0
OwesLess v w = (x y : ℕ) → owes (Some v) x y ≡ true → owes (Some w) x y ≡ true

read_less : (lossy_shows : ℕ → ℕ) (t : ℕ) (ks : List ℕ) (w : Window) → IsKept w → OwesLess (read t ks w) w × IsKept (read t ks w)
read_less lossy_shows t [] w kept = ((λ x y is. is), kept)
read_less lossy_shows t (k ∷ ks) w kept =
    let more = read_less lossy_shows t ks (acknowledged k false t w) (kept_changed lossy_shows (Acknowledge k false t) w tt kept) in
    ((λ x y is. same x y (rect_sent w.unacknowledged k) (sym (owed_changed lossy_shows (Acknowledge k false t) w tt kept x y) ∙ more.0 x y is)), more.1)
  where
    same : (x y : ℕ) (o : Option Rectangle) → owed_acknowledged o false w x y ≡ true → owes (Some w) x y ≡ true
    same x y None is = is
    same x y (Some r) is = is

file_less : (lossy_shows : ℕ → ℕ) (now : ℕ) (results : List Result) (w : Window) → IsKept w → OwesLess (file_all now results w) w × IsKept (file_all now results w)
file_less lossy_shows now [] w kept = ((λ x y is. is), kept)
file_less lossy_shows now (r ∷ results) w kept =
    let more = file_less lossy_shows now results (filed r.number r.capture now w) (kept_changed lossy_shows (File r.number r.capture now) w tt kept) in
    ((λ x y is. sym (owed_changed lossy_shows (File r.number r.capture now) w tt kept x y) ∙ more.0 x y is), more.1)

write_less : (lossy_shows : ℕ → ℕ) (writes : List Bool) (w : Window) → IsKept w → OwesLess (write_all lossy_shows writes w) w × IsKept (write_all lossy_shows writes w)
write_less lossy_shows [] w kept = ((λ x y is. is), kept)
write_less lossy_shows (false ∷ writes) w kept = write_less lossy_shows writes w kept
write_less lossy_shows (true ∷ writes) w kept =
    let more = write_less lossy_shows writes (written_front lossy_shows w.packets w) (kept_changed lossy_shows (Write true) w tt kept) in
    ((λ x y is. fewer x y w.packets (sym (owed_changed lossy_shows (Write true) w tt kept x y) ∙ more.0 x y is)), more.1)
  where
    fewer : (x y : ℕ) (packets : List Packet) → owed_without_front packets w x y ≡ true → owes (Some w) x y ≡ true
    fewer x y [] is = is
    fewer x y (p ∷ packets) is = (and_parts (owes (Some w) x y) _ is).0

capture_less : (lossy_shows : ℕ → ℕ) (b : Bool) (plan : List Planned) (first : ℕ) (w : Window) → (b ≡ true → IsCaptureOf w plan) → IsKept w → OwesLess (captured_where b plan first w) w × IsKept (captured_where b plan first w)
capture_less lossy_shows true plan first w event kept = ((λ x y is. sym (owed_changed lossy_shows (Capture plan first) w (event refl) kept x y) ∙ is), kept_changed lossy_shows (Capture plan first) w (event refl) kept)
capture_less lossy_shows false plan first w event kept = ((λ x y is. is), kept)

nothing_less : (v w : Window) → v.desk.wide ≡ w.desk.wide → v.desk.high ≡ w.desk.high → OwesLess v w → owes_nothing w ≡ true → owes_nothing v ≡ true
nothing_less v w wide high less none = none-is_empty v.desk.wide v.desk.high (is_owed v) (λ x y within. false_from_ne_true (is_owed v x y)
    (λ is. false≢true (sym (empty-has_none w.desk.wide w.desk.high (is_owed w) none x y (rw (wide, high) at within)) ∙ (and_parts (is_within w.desk.wide w.desk.high x y) (is_owed w x y) (less x y (and_from _ _ within is))).1)))

-- a refresh: each lossy point is covered by an exact job in hand
pub record IsCovered (w : Window) : Type 0 where
  pub exact : All (λ (j : Job). j.capture.coding ≡ C.Exact) w.jobs
  pub covered : (x y : ℕ) → is_within w.desk.wide w.desk.high x y ≡ true → has w.lossy x y ≡ true → list_any (λ (j : Job). is_in j.capture.rect x y) w.jobs ≡ true

covered_queued : (now : ℕ) (j : Job) (jobs : List Job) (w : Window) → IsCovered (record w { jobs = j ∷ jobs }) → IsCovered (record (queued now j w) { jobs = jobs })
covered_queued now j jobs w covered = record {
  exact = All-tail (λ (j : Job). j.capture.coding ≡ C.Exact) j jobs covered.exact;
  covered = λ x y within lossy. at x y within (rw coded at lossy);
}
  where
    coded : j.capture.coding ≡ C.Exact
    coded = All-head (λ (j : Job). j.capture.coding ≡ C.Exact) j jobs covered.exact

    at : (x y : ℕ) → is_within w.desk.wide w.desk.high x y ≡ true → has (points w.desk.wide w.desk.high (λ x y. has w.lossy x y && not (is_in j.capture.rect x y))) x y ≡ true → list_any (λ (j : Job). is_in j.capture.rect x y) jobs ≡ true
    at x y within lossy =
        let parts = and_parts (has w.lossy x y) (not (is_in j.capture.rect x y)) (sym (has-points_within w.desk.wide w.desk.high (λ x y. has w.lossy x y && not (is_in j.capture.rect x y)) x y within) ∙ lossy) in
        let outside : is_in j.capture.rect x y ≡ false = not-true (is_in j.capture.rect x y) parts.1 in
        sym (ap (λ (b : Bool). b || list_any (λ (j : Job). is_in j.capture.rect x y) jobs) outside) ∙ covered.covered x y within parts.0

covered_ready : (now : ℕ) (jobs : List Job) (w : Window) → IsCovered (record w { jobs = jobs }) → IsCovered (queue_ready now jobs w)
covered_ready now [] w covered = covered
covered_ready now (j ∷ jobs) w covered = which j.encoded (covered_ready now jobs (queued now j w) (covered_queued now j jobs w covered))
  where
    which : (b : Bool) → IsCovered (queue_ready now jobs (queued now j w)) → IsCovered (cond b (queue_ready now jobs (queued now j w)) (record w { jobs = j ∷ jobs }))
    which true rest = rest
    which false rest = covered

covered_marked : (k : ℕ) (jobs : List Job) → All (λ (j : Job). j.capture.coding ≡ C.Exact) jobs → All (λ (j : Job). j.capture.coding ≡ C.Exact) (with_result jobs k)
covered_marked k [] exact = exact
covered_marked k (j ∷ jobs) exact = elim (cases_Bool (nat_eq j.number k)) [
  | inl is ↦ rw is (All-cons (λ (j : Job). j.capture.coding ≡ C.Exact) (record j { encoded = true }) jobs (All-head (λ (j : Job). j.capture.coding ≡ C.Exact) j jobs exact) (All-tail (λ (j : Job). j.capture.coding ≡ C.Exact) j jobs exact))
  | inr isnt ↦ rw isnt (All-cons (λ (j : Job). j.capture.coding ≡ C.Exact) j (with_result jobs k) (All-head (λ (j : Job). j.capture.coding ≡ C.Exact) j jobs exact) (covered_marked k jobs (All-tail (λ (j : Job). j.capture.coding ≡ C.Exact) j jobs exact)))
]

covers-marked : (k x y : ℕ) (jobs : List Job) → list_any (λ (j : Job). is_in j.capture.rect x y) (with_result jobs k) ≡ list_any (λ (j : Job). is_in j.capture.rect x y) jobs
covers-marked k x y [] = refl
covers-marked k x y (j ∷ jobs) = elim (cases_Bool (nat_eq j.number k)) [
  | inl is ↦ rw is refl
  | inr isnt ↦ rw isnt (ap (λ (b : Bool). is_in j.capture.rect x y || b) (covers-marked k x y jobs))
]

covered_filed : (f : Filing) (k now : ℕ) (w : Window) → IsCovered w → IsCovered (filed_as f k now w)
covered_filed Late k now w covered = covered
covered_filed Foreign k now w covered = covered
covered_filed Filed k now w covered = covered_ready now (with_result w.jobs k) w (record {
  exact = covered_marked k w.jobs covered.exact;
  covered = λ x y within lossy. covers-marked k x y w.jobs ∙ covered.covered x y within lossy;
})

pub covered_files : (now : ℕ) (results : List Result) (w : Window) → IsCovered w → IsCovered (file_all now results w)
covered_files now [] w covered = covered
covered_files now (r ∷ results) w covered = covered_files now results (filed r.number r.capture now w) (covered_filed (filing_of (capture_of w.jobs r.number) r.capture) r.number now w covered)

-- the jobs of a refresh
refresh_exact : (desk : Grid) (region : Points) (first : ℕ) (plan : List Planned) → All (λ (p : Planned). p.coding ≡ C.Exact) plan → All (λ (j : Job). j.capture.coding ≡ C.Exact) (jobs_of desk region first plan)
refresh_exact desk region first [] exact = All-nil (λ (j : Job). j.capture.coding ≡ C.Exact)
refresh_exact desk region first (p ∷ plan) exact = All-cons (λ (j : Job). j.capture.coding ≡ C.Exact) _ (jobs_of desk region (first + 1) plan) (All-head (λ (p : Planned). p.coding ≡ C.Exact) p plan exact)
    (refresh_exact desk region (first + 1) plan (All-tail (λ (p : Planned). p.coding ≡ C.Exact) p plan exact))

refresh_covers : (desk : Grid) (region : Points) (first : ℕ) (plan : List Planned) (x y : ℕ) → list_any (λ (j : Job). is_in j.capture.rect x y) (jobs_of desk region first plan) ≡ list_any (λ (p : Planned). is_in p.rect x y) plan
refresh_covers desk region first [] x y = refl
refresh_covers desk region first (p ∷ plan) x y = ap (λ (b : Bool). is_in p.rect x y || b) (refresh_covers desk region (first + 1) plan x y)

pub covered_refresh : (plan : List Planned) (first : ℕ) (w : Window) → w.jobs ≡ [] → is_empty w.pending ≡ true → IsPlan w plan → IsCovered (captured plan first w)
covered_refresh plan first w none empty planned = record {
  exact = rw none (refresh_exact w.desk (region_taken w) first plan (planned.refresh empty));
  covered = λ x y within lossy. ap (λ (js : List Job). list_any (λ (j : Job). is_in j.capture.rect x y) (js ++ jobs_of w.desk (region_taken w) first plan)) none
      ∙ (refresh_covers w.desk (region_taken w) first plan x y ∙ planned.covers x y (ap (λ (b : Bool). has (cond b w.lossy w.pending) x y) empty ∙ lossy));
}

covered_none : (w : Window) → w.jobs ≡ [] → is_empty w.lossy ≡ true → IsCovered w
covered_none w none empty = record {
  exact = rw none (All-nil (λ (j : Job). j.capture.coding ≡ C.Exact));
  covered = λ x y within lossy. absurd (false≢true (sym (has-empty w.lossy x y empty) ∙ lossy));
}

-- what a capture answers where time, load, weight and number allow it
pub allowed_where : (now weight first : ℕ) (w : Window) → earliest w ≤ now → load w ≡ 0 → weight < 33_554_432 → first < 2 ^ 62 → w.mapped ≡ true → is_clean w ≡ false → is_allowed (capture_answer now weight first w) ≡ true
allowed_where now weight first w due unloaded light numbers mapped unclean = rw (mapped, unclean, late, unloaded, bearable, left) refl
  where
    late : nat_lt now (earliest w) ≡ false
    late = false_from_ne_true (nat_lt now (earliest w)) (λ is. omega (arith, due, ltb-true now (earliest w) is))

    bearable : nat_le 33_554_432 weight ≡ false
    bearable = grind (arith, nat_tests, light)

    left : nat_le (2 ^ 62) first ≡ false
    left = grind (arith, nat_tests, numbers)

refused_clean : (now weight first : ℕ) (w : Window) → w.mapped ≡ true → is_clean w ≡ true → is_allowed (capture_answer now weight first w) ≡ false
refused_clean now weight first w mapped clean = rw (mapped, clean) refl

captured_stays : (b : Bool) (plan : List Planned) (first : ℕ) (w : Window) → ((captured_where b plan first w).desk ≡ w.desk) × ((captured_where b plan first w).mapped ≡ w.mapped)
captured_stays true plan first w = (refl, refl)
captured_stays false plan first w = (refl, refl)

pub pending_captured : (plan : List Planned) (first : ℕ) (w : Window) → is_empty (captured plan first w).pending ≡ true
pending_captured plan first w = none-is_empty w.desk.wide w.desk.high (λ x y. false) (λ x y within. refl)

rest_three : (w : Window) → rest w ≤ 3
rest_three w = which (is_idle w) (w.mapped) (owes_nothing w) (is_empty w.pending)
  where
    which : (idle mapped nothing empty : Bool) → cond (not idle) 3 (cond (not mapped || nothing) 0 (cond empty 1 2)) ≤ 3
    which false mapped nothing empty = omega arith
    which true false nothing empty = omega arith
    which true true true empty = omega arith
    which true true false true = omega arith
    which true true false false = omega arith

-- a quiet turn
module _ (lossy_shows : ℕ → ℕ) (clock : ℕ) (t : Turn) (w : Window) (quiet : IsQuiet lossy_shows clock (is_idle w) t w) where
  abbrev r : Window
  r = read t.read_at t.acknowledged w

  abbrev answered : Bool
  answered = is_allowed (capture_answer t.now t.weight t.first r)

  abbrev c : Window
  c = captured_where answered t.plan t.first r

  abbrev f : Window
  f = file_all t.now t.results c

  abbrev v : Window
  v = write_all lossy_shows t.writes f

  as_read : ReadsAs r w
  as_read = read_reads t.read_at t.acknowledged w

  v_idle : is_idle v ≡ true
  v_idle = idle_from v quiet.filed quiet.written

  v_as_c : StaysAs v c
  v_as_c = stays_trans v f c (write_all_writes lossy_shows t.writes f).stays (file_all_stays t.now t.results c)

  v_mapped : v.mapped ≡ w.mapped
  v_mapped = v_as_c.mapped ∙ ((captured_stays answered t.plan t.first r).1 ∙ as_read.mapped)

  v_desk : v.desk ≡ w.desk
  v_desk = v_as_c.desk ∙ ((captured_stays answered t.plan t.first r).0 ∙ as_read.desk)

  rest_unmapped : w.mapped ≡ false → rest v ≡ 0
  rest_unmapped unmapped = rw (v_idle, v_mapped, unmapped) refl

  rest_nothing : owes_nothing v ≡ true → rest v ≡ 0
  rest_nothing nothing = rw (v_idle, nothing) (cond_same (not v.mapped) 0 (cond (is_empty v.pending) 1 2))
    where
      cond_same : (b : Bool) (m n : ℕ) → cond (b || true) m n ≡ m
      cond_same true m n = refl
      cond_same false m n = refl

  rest_empty : is_empty v.pending ≡ true → rest v ≤ 1
  rest_empty empty = rw (v_idle, empty) (low (not v.mapped || owes_nothing v))
    where
      low : (b : Bool) → cond b 0 1 ≤ 1
      low true = omega arith
      low false = omega arith

  rest_idle : rest v ≤ 2
  rest_idle = rw v_idle (low (not v.mapped || owes_nothing v) (is_empty v.pending))
    where
      low : (b e : Bool) → cond b 0 (cond e 1 2) ≤ 2
      low true e = omega arith
      low false true = omega arith
      low false false = omega arith

  -- nothing is owed before
  still_nothing : owes_nothing w ≡ true → owes_nothing v ≡ true
  still_nothing nothing =
      let reads = read_less lossy_shows t.read_at t.acknowledged w quiet.kept in
      let captures = capture_less lossy_shows answered t.plan t.first r quiet.planned reads.1 in
      let files = file_less lossy_shows t.now t.results c captures.1 in
      let writes = write_less lossy_shows t.writes f files.1 in
      nothing_less v w (ap (λ (g : Grid). g.wide) v_desk) (ap (λ (g : Grid). g.high) v_desk) (λ x y is. reads.0 x y (captures.0 x y (files.0 x y (writes.0 x y is)))) nothing

  -- an idle window that is not clean is captured
  now_allowed : is_idle w ≡ true → w.mapped ≡ true → is_clean r ≡ false → answered ≡ true
  now_allowed idle mapped unclean = allowed_where t.now t.weight t.first r due (reading_unloads t.first t.read_at t.acknowledged w quiet.numbered idle quiet.acknowledged) (quiet.light idle) quiet.numbers (as_read.mapped ∙ mapped) unclean
    where
      due : earliest r ≤ t.now
      due = omega (arith, due_after clock r (read_timed clock t.read_at t.acknowledged w quiet.timed), quiet.ticked)

  -- nothing is pending before
  now_covered : is_idle w ≡ true → w.mapped ≡ true → is_empty w.pending ≡ true → IsCovered c × (is_empty c.pending ≡ true)
  now_covered idle mapped empty = which (cases_Bool (is_empty r.lossy))
    where
      none : r.jobs ≡ []
      none = as_read.jobs ∙ (idle_parts w idle).0

      unsent : r.packets ≡ []
      unsent = as_read.packets ∙ (idle_parts w idle).1

      r_empty : is_empty r.pending ≡ true
      r_empty = ap is_empty as_read.pending ∙ empty

      taken : (b : Bool) → answered ≡ b → IsCovered (captured_where b t.plan t.first r) × (is_empty (captured_where b t.plan t.first r).pending ≡ true) → IsCovered c × (is_empty c.pending ≡ true)
      taken b is holds = subst (λ (a : Bool). IsCovered (captured_where a t.plan t.first r) × (is_empty (captured_where a t.plan t.first r).pending ≡ true)) (sym is) holds

      which : (is_empty r.lossy ≡ true) ⊎ (is_empty r.lossy ≡ false) → IsCovered c × (is_empty c.pending ≡ true)
      which (inl clear) = taken false (refused_clean t.now t.weight t.first r (as_read.mapped ∙ mapped) (rw (r_empty, clear) refl)) (covered_none r none clear, r_empty)
      which (inr some) =
          let allowed : answered ≡ true = now_allowed idle mapped (rw (r_empty, some, none, unsent) refl) in
          taken true allowed (covered_refresh t.plan t.first r none r_empty (quiet.planned allowed).planned, pending_captured t.plan t.first r)

  refreshed : is_idle w ≡ true → w.mapped ≡ true → is_empty w.pending ≡ true → owes_nothing v ≡ true
  refreshed idle mapped empty = none-is_empty v.desk.wide v.desk.high (is_owed v) (λ x y within. at x y within)
    where
      covered : IsCovered c × (is_empty c.pending ≡ true)
      covered = now_covered idle mapped empty

      files : IsCovered f
      files = covered_files t.now t.results c covered.0

      wrote : WritesAs v f
      wrote = write_all_writes lossy_shows t.writes f

      unpending : is_empty v.pending ≡ true
      unpending = ap is_empty v_as_c.pending ∙ covered.1

      unlossy : (x y : ℕ) → is_within v.desk.wide v.desk.high x y ≡ true → has v.lossy x y ≡ false
      unlossy x y within = false_from_ne_true (has v.lossy x y) (λ lossy. false≢true (sym (ap (λ (js : List Job). list_any (λ (j : Job). is_in j.capture.rect x y) js) (sym wrote.jobs ∙ quiet.filed))
          ∙ files.covered x y (rw wrote.stays.desk at within) (rw wrote.lossy at lossy)))

      at : (x y : ℕ) → is_within v.desk.wide v.desk.high x y ≡ true → is_owed v x y ≡ false
      at x y within = rw (quiet.filed, quiet.written, has-empty v.pending x y unpending, unlossy x y within) refl

  emptied : is_idle w ≡ true → w.mapped ≡ true → is_empty w.pending ≡ false → is_empty v.pending ≡ true
  emptied idle mapped some =
      let allowed : answered ≡ true = now_allowed idle mapped (rw (as_read.pending, some) refl) in
      ap is_empty v_as_c.pending ∙ (ap (λ (b : Bool). is_empty (captured_where b t.plan t.first r).pending) allowed ∙ pending_captured t.plan t.first r)

  pub quiet_turn_rests : rest v ≤ rest w - 1
  quiet_turn_rests = which (cases_Bool (is_idle w)) (cases_Bool w.mapped) (cases_Bool (owes_nothing w)) (cases_Bool (is_empty w.pending))
    where
      zero_low : (n : ℕ) → rest v ≡ 0 → rest v ≤ n
      zero_low n is = subst (λ (m : ℕ). m ≤ n) (sym is) (omega arith)

      which : (is_idle w ≡ true) ⊎ (is_idle w ≡ false) → (w.mapped ≡ true) ⊎ (w.mapped ≡ false) → (owes_nothing w ≡ true) ⊎ (owes_nothing w ≡ false) → (is_empty w.pending ≡ true) ⊎ (is_empty w.pending ≡ false) → rest v ≤ rest w - 1
      which (inr busy) mapped nothing empty = let three : rest w ≡ 3 = rw busy refl in subst (λ (n : ℕ). rest v ≤ n - 1) (sym three) rest_idle
      which (inl idle) (inr unmapped) nothing empty = zero_low (rest w - 1) (rest_unmapped unmapped)
      which (inl idle) (inl mapped) (inl nothing) empty = zero_low (rest w - 1) (rest_nothing (still_nothing nothing))
      which (inl idle) (inl mapped) (inr some) (inl empty) = zero_low (rest w - 1) (rest_nothing (refreshed idle mapped empty))
      which (inl idle) (inl mapped) (inr some) (inr pending) = let two : rest w ≡ 2 = rw (idle, mapped, some, pending) refl in subst (λ (n : ℕ). rest v ≤ n - 1) (sym two) (rest_empty (emptied idle mapped pending))

-- clients
max_less : (a b c d : ℕ) → a ≤ b - 1 → c ≤ d - 1 → max a c ≤ max b d - 1
max_less a b c d first second = omega (arith, first, second)

all_nearer : (before after : List Window) → CameNearer before after → greatest_rest after ≤ greatest_rest before - 1
all_nearer [] [] nearer = omega arith
all_nearer [] (v ∷ vs) nearer = absurd nearer
all_nearer (w ∷ ws) [] nearer = absurd nearer
all_nearer (w ∷ ws) (v ∷ vs) nearer = max_less (rest v) (rest w) (greatest_rest vs) (greatest_rest ws) nearer.0 (all_nearer ws vs nearer.1)

all_three : (ws : List Window) → greatest_rest ws ≤ 3
all_three [] = omega arith
all_three (w ∷ ws) = omega (arith, rest_three w, all_three ws)

pub clients_come_nearer : (others : Bool) (before after : List Window) → CameNearer before after → rest_of false after ≤ rest_of others before - 1
clients_come_nearer false before after nearer = all_nearer before after nearer
clients_come_nearer true before after nearer = omega (arith, all_nearer before after nearer, all_three before)
