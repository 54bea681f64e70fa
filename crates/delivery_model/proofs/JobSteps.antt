-- A capture and the filing of a result keep the form.
use Rattle.std.proofs.Common.{◌≡◌, ◌⊎◌, inl, inr, ℕ, ◌+◌, Bool, true, false, not, ◌&&◌, ◌||◌, List, [], ◌∷◌, map, cond, refl, sym, ap, ◌∙◌, arith}
use Rattle.std.specs.Prelude.{All, nat_eq}
use Rattle.std.specs.List.{list_any}
use Rattle.std.proofs.lemmas.Bool.{cases_Bool, and_parts, and_from, or_cases, false≢true, eq-eqb}
use Rattle.std.proofs.lemmas.Bool.Decides.{nat_tests}
use Rattle.std.proofs.lemmas.List.Elements.{All-nil, All-cons, All-head, All-tail, All-append, All-push}
use Rattle.xp_base.specs.declared.coding.Coding.{Coding}
use Rattle.xp_base.specs.declared.coding.Coding.TheVariants as C
use Rattle.xp_base.specs.Points.{Rectangle, LiesIn, is_in, is_within}
use Rattle.xp_base.specs.Captures.{Captured}
use Rattle.delivery_model.specs.Grids.{Points, points, has, number, shown_at, cut, number_in}
use Rattle.delivery_model.specs.Window.{Job, Draw, Draws, Window}
use Rattle.delivery_model.specs.Client.{size_of}
use Rattle.delivery_model.specs.Events.{is_empty, jobs_relieve, Planned, region_taken, job_of, jobs_of, captured, relief_queued, lossy_queued, queued, queue_ready, with_result, filing_of, Filing, Late, Foreign, Filed, filed_as, filed, capture_of}
use Rattle.delivery_model.specs.Plans.{IsPlan}
use Rattle.delivery_model.specs.Marks.{over}
use Rattle.delivery_model.specs.Point.{packets_at, job_at, jobs_at, job_mark}
use Rattle.delivery_model.specs.Kept.{IsOver, JobFits, PacketFits, IsKept}
use Rattle.delivery_model.proofs.Grids.{has-points, has-points_within, has-empty, number_in-cut}
use Rattle.delivery_model.proofs.MarkSteps.{IsGood, AllGood}
use Rattle.delivery_model.proofs.PointSteps.{relief_at, lossy_at, kept_captured, kept_queued}
use Rattle.delivery_model.proofs.Lists.{sizes_after-append, packets_at-append, jobs_at-append, any-jobs}

-- a rectangle of the window has points of the window alone
pub in_window : (w h : ℕ) (r : Rectangle) (x y : ℕ) → LiesIn w h r → is_in r x y ≡ true → is_within w h x y ≡ true
in_window w h r x y lies inside = grind (arith, nat_tests, lies.across, lies.down)

job_fits : (w : Window) (region : Points) (k : ℕ) (p : Planned) → LiesIn w.desk.wide w.desk.high p.rect
    → (p.coding ≡ C.Lossy → (x y : ℕ) → is_in p.rect x y ≡ true → has region x y ≡ true) → JobFits w.desk.wide w.desk.high (job_of w.desk region k p)
job_fits w region k p lies lossy = record {
  within = lies;
  over = record { wide = refl; high = refl };
  inside = λ x y there. (and_parts _ _ (and_parts _ _ (rw (has-points w.desk.wide w.desk.high (λ x y. is_in p.rect x y && has region x y) x y) at there)).1).0;
  whole = λ coded x y inside. rw (has-points w.desk.wide w.desk.high (λ x y. is_in p.rect x y && has region x y) x y)
      (and_from _ _ (in_window w.desk.wide w.desk.high p.rect x y lies inside) (and_from _ _ inside (lossy coded x y inside)));
}

jobs_fit : (w : Window) (region : Points) (k : ℕ) (plan : List Planned) → All (λ (p : Planned). LiesIn w.desk.wide w.desk.high p.rect) plan
    → All (λ (p : Planned). p.coding ≡ C.Lossy → (x y : ℕ) → is_in p.rect x y ≡ true → has region x y ≡ true) plan → All (JobFits w.desk.wide w.desk.high) (jobs_of w.desk region k plan)
jobs_fit w region k [] lies lossy = All-nil (JobFits w.desk.wide w.desk.high)
jobs_fit w region k (p ∷ plan) lies lossy = All-cons (JobFits w.desk.wide w.desk.high) (job_of w.desk region k p) (jobs_of w.desk region (k + 1) plan)
    (job_fits w region k p (All-head (λ (p : Planned). LiesIn w.desk.wide w.desk.high p.rect) p plan lies)
    (All-head (λ (p : Planned). p.coding ≡ C.Lossy → (x y : ℕ) → is_in p.rect x y ≡ true → has region x y ≡ true) p plan lossy))
    (jobs_fit w region (k + 1) plan (All-tail (λ (p : Planned). LiesIn w.desk.wide w.desk.high p.rect) p plan lies)
    (All-tail (λ (p : Planned). p.coding ≡ C.Lossy → (x y : ℕ) → is_in p.rect x y ≡ true → has region x y ≡ true) p plan lossy))

-- at a point of the window the new jobs relieve what is in a rectangle of the plan and in the region
pub jobs_of-relieve : (w : Window) (region : Points) (k : ℕ) (plan : List Planned) (x y : ℕ) → is_within w.desk.wide w.desk.high x y ≡ true
    → jobs_relieve (jobs_of w.desk region k plan) x y ≡ (list_any (λ (p : Planned). is_in p.rect x y) plan && has region x y)
jobs_of-relieve w region k [] x y within = refl
jobs_of-relieve w region k (p ∷ plan) x y within =
    rw (has-points_within w.desk.wide w.desk.high (λ x y. is_in p.rect x y && has region x y) x y within, jobs_of-relieve w region (k + 1) plan x y within)
    (spread (is_in p.rect x y) (list_any (λ (p : Planned). is_in p.rect x y) plan) (has region x y))
  where
    spread : (a b r : Bool) → ((a && r) || (b && r)) ≡ ((a || b) && r)
    spread a b r = grind (arith, nat_tests)

-- a capture takes what is pending
pub region_pending : (w : Window) (x y : ℕ) → has w.pending x y ≡ true → region_taken w ≡ w.pending
region_pending w x y pending = which (is_empty w.pending) refl
  where
    which : (b : Bool) → is_empty w.pending ≡ b → cond b w.lossy w.pending ≡ w.pending
    which true empty = absurd (false≢true (sym (has-empty w.pending x y empty) ∙ pending))
    which false empty = refl

-- what was pending is relieved by the jobs of a capture
pub pending_relieved : (w : Window) (k : ℕ) (plan : List Planned) → IsPlan w plan → (x y : ℕ) → is_within w.desk.wide w.desk.high x y ≡ true
    → has w.pending x y ≡ true → jobs_relieve (jobs_of w.desk (region_taken w) k plan) x y ≡ true
pending_relieved w k plan planned x y within pending =
    let taken : has (region_taken w) x y ≡ true = ap (λ (r : Points). has r x y) (region_pending w x y pending) ∙ pending in
    jobs_of-relieve w (region_taken w) k plan x y within ∙ and_from _ _ (planned.covers x y taken) taken

-- a new job has the window's numbers
good_job : (w : Window) (region : Points) (k : ℕ) (p : Planned) (x y : ℕ) → is_within w.desk.wide w.desk.high x y ≡ true
    → IsGood (job_mark (number w.desk x y) (job_at (job_of w.desk region k p) x y))
good_job w region k p x y within = record { leaves = λ u is. leaves (cases_Bool (is_in p.rect x y)) u is; relieves = λ is u. relieves is u }
  where
    there : is_in p.rect x y ≡ true → (u : Bool) → over (job_mark (number w.desk x y) (job_at (job_of w.desk region k p) x y)).leaves u ≡ true
    there inside u = rw inside (eq-eqb (number_in p.rect (cut w.desk p.rect) x y) (number w.desk x y) (number_in-cut w.desk p.rect x y inside))

    leaves : (is_in p.rect x y ≡ true) ⊎ (is_in p.rect x y ≡ false) → (u : Bool) → u ≡ true → over (job_mark (number w.desk x y) (job_at (job_of w.desk region k p) x y)).leaves u ≡ true
    leaves (inl inside) u is = there inside u
    leaves (inr outside) u is = rw outside is

    relieves : has (points w.desk.wide w.desk.high (λ x y. is_in p.rect x y && has region x y)) x y ≡ true → (u : Bool) → over (job_mark (number w.desk x y) (job_at (job_of w.desk region k p) x y)).leaves u ≡ true
    relieves is u = there (and_parts _ _ (rw (has-points_within w.desk.wide w.desk.high (λ x y. is_in p.rect x y && has region x y) x y within) at is)).0 u

good_jobs : (w : Window) (region : Points) (k : ℕ) (plan : List Planned) (x y : ℕ) → is_within w.desk.wide w.desk.high x y ≡ true
    → AllGood (map (job_mark (number w.desk x y)) (jobs_at (jobs_of w.desk region k plan) x y))
good_jobs w region k [] x y within = tt
good_jobs w region k (p ∷ plan) x y within = (good_job w region k p x y within, good_jobs w region (k + 1) plan x y within)

pub keeps_captured : (plan : List Planned) (first : ℕ) (w : Window) → IsPlan w plan → IsKept w → IsKept (captured plan first w)
keeps_captured plan first w planned kept = record {
  sized = kept.sized;
  jobs = All-append (JobFits w.desk.wide w.desk.high) w.jobs (jobs_of w.desk (region_taken w) first plan) kept.jobs (jobs_fit w (region_taken w) first plan planned.within planned.lossy);
  packets = kept.packets;
  pending = record { wide = refl; high = refl };
  lossy = kept.lossy;
  points = λ x y within. rw (has-points_within w.desk.wide w.desk.high (λ x y. false) x y within, jobs_at-append)
      (kept_captured (number w.desk x y) (shown_at w.client x y) (packets_at (size_of w.client) w.packets x y) (jobs_at w.jobs x y) (jobs_at (jobs_of w.desk (region_taken w) first plan) x y) (has w.pending x y) (has w.lossy x y)
      (good_jobs w (region_taken w) first plan x y within)
      (λ pending. any-jobs (number w.desk x y) (jobs_of w.desk (region_taken w) first plan) x y ∙ pending_relieved w first plan planned x y within pending)
      (kept.points x y within));
}

-- whether a result came back plays no part at a point
jobs_at-with_result : (jobs : List Job) (k x y : ℕ) → jobs_at (with_result jobs k) x y ≡ jobs_at jobs x y
jobs_at-with_result [] k x y = refl
jobs_at-with_result (j ∷ jobs) k x y = elim (cases_Bool (nat_eq j.number k)) [
  | inl same ↦ rw same refl
  | inr other ↦ rw other (ap (λ js. job_at j x y ∷ js) (jobs_at-with_result jobs k x y))
]

pub fit-with_result : (w h : ℕ) (jobs : List Job) (k : ℕ) → All (JobFits w h) jobs → All (JobFits w h) (with_result jobs k)
fit-with_result w h [] k fits = fits
fit-with_result w h (j ∷ jobs) k fits = elim (cases_Bool (nat_eq j.number k)) [
  | inl same ↦ rw same (All-cons (JobFits w h) (record j { encoded = true }) jobs (again (All-head (JobFits w h) j jobs fits)) (All-tail (JobFits w h) j jobs fits))
  | inr other ↦ rw other (All-cons (JobFits w h) j (with_result jobs k) (All-head (JobFits w h) j jobs fits) (fit-with_result w h jobs k (All-tail (JobFits w h) j jobs fits)))
]
  where
    again : JobFits w h j → JobFits w h (record j { encoded = true })
    again f = record { within = f.within; over = f.over; inside = f.inside; whole = f.whole }

pub keeps_result : (k : ℕ) (w : Window) → IsKept w → IsKept (record w { jobs = with_result w.jobs k })
keeps_result k w kept = record {
  sized = kept.sized;
  jobs = fit-with_result w.desk.wide w.desk.high w.jobs k kept.jobs;
  packets = kept.packets;
  pending = kept.pending;
  lossy = kept.lossy;
  points = λ x y within. rw jobs_at-with_result (kept.points x y within);
}

-- the regions after a draw was queued
pub has-relief_queued : (w : Window) (j : Job) (coding : Coding) (x y : ℕ) → is_within w.desk.wide w.desk.high x y ≡ true
    → has (relief_queued w j.capture.rect j.relief coding) x y ≡ relief_at (job_at j x y) coding (has w.lossy x y)
has-relief_queued w j C.Exact x y within = has-points_within w.desk.wide w.desk.high (λ x y. has j.relief x y || (has w.lossy x y && is_in j.capture.rect x y)) x y within
has-relief_queued w j C.Lossy x y within = refl

pub has-lossy_queued : (w : Window) (j : Job) (coding : Coding) (x y : ℕ) → is_within w.desk.wide w.desk.high x y ≡ true
    → has (lossy_queued w j.capture.rect coding) x y ≡ lossy_at (job_at j x y) coding (has w.lossy x y)
has-lossy_queued w j C.Exact x y within = has-points_within w.desk.wide w.desk.high (λ x y. has w.lossy x y && not (is_in j.capture.rect x y)) x y within
has-lossy_queued w j C.Lossy x y within = has-points_within w.desk.wide w.desk.high (λ x y. has w.lossy x y || is_in j.capture.rect x y) x y within

lossy_over : (w : Window) (j : Job) (coding : Coding) → IsOver w.desk.wide w.desk.high (lossy_queued w j.capture.rect coding)
lossy_over w j C.Exact = record { wide = refl; high = refl }
lossy_over w j C.Lossy = record { wide = refl; high = refl }

relief_over : (w : Window) (j : Job) (coding : Coding) → JobFits w.desk.wide w.desk.high j → IsOver w.desk.wide w.desk.high (relief_queued w j.capture.rect j.relief coding)
relief_over w j C.Exact fits = record { wide = refl; high = refl }
relief_over w j C.Lossy fits = fits.over

relief_inside : (w : Window) (j : Job) (coding : Coding) → JobFits w.desk.wide w.desk.high j → (x y : ℕ) → has (relief_queued w j.capture.rect j.relief coding) x y ≡ true → is_in j.capture.rect x y ≡ true
relief_inside w j C.Exact fits x y there = which (or_cases _ _ (and_parts _ _ (rw (has-points w.desk.wide w.desk.high (λ x y. has j.relief x y || (has w.lossy x y && is_in j.capture.rect x y)) x y) at there)).1)
  where
    which : (has j.relief x y ≡ true) ⊎ ((has w.lossy x y && is_in j.capture.rect x y) ≡ true) → is_in j.capture.rect x y ≡ true
    which (inl relieved) = fits.inside x y relieved
    which (inr both) = (and_parts _ _ both).1
relief_inside w j C.Lossy fits x y there = fits.inside x y there

pub keeps_queued : (now : ℕ) (j : Job) (jobs : List Job) (w : Window) → IsKept (record w { jobs = j ∷ jobs }) → IsKept (record (queued now j w) { jobs = jobs })
keeps_queued now j jobs w kept = record {
  sized = rw sizes_after-append (rw kept.sized refl);
  jobs = All-tail (JobFits w.desk.wide w.desk.high) j jobs kept.jobs;
  packets = All-push (PacketFits w.desk.wide w.desk.high) w.packets (Draws draw) kept.packets
      (record { over = relief_over w j j.capture.coding fits; inside = relief_inside w j j.capture.coding fits });
  pending = kept.pending;
  lossy = lossy_over w j j.capture.coding;
  points = λ x y within. rw (packets_at-append, kept.sized, has-lossy_queued w j j.capture.coding x y within, has-relief_queued w j j.capture.coding x y within)
      (rw within (kept_queued (number w.desk x y) (shown_at w.client x y) (packets_at (size_of w.client) w.packets x y) (job_at j x y) (jobs_at jobs x y) (has w.pending x y) (has w.lossy x y)
      (fits.inside x y) (kept.points x y within)));
}
  where
    fits : JobFits w.desk.wide w.desk.high j
    fits = All-head (JobFits w.desk.wide w.desk.high) j jobs kept.jobs

    draw : Draw
    draw = record {
      sequence = w.next_sequence;
      capture = j.capture;
      relief = relief_queued w j.capture.rect j.relief j.capture.coding;
    }

pub keeps_ready : (now : ℕ) (jobs : List Job) (w : Window) → IsKept (record w { jobs = jobs }) → IsKept (queue_ready now jobs w)
keeps_ready now [] w kept = kept
keeps_ready now (j ∷ jobs) w kept = which j.encoded (keeps_ready now jobs (queued now j w) (keeps_queued now j jobs w kept))
  where
    which : (b : Bool) → IsKept (queue_ready now jobs (queued now j w)) → IsKept (cond b (queue_ready now jobs (queued now j w)) (record w { jobs = j ∷ jobs }))
    which true left = left
    which false left = kept

pub keeps_filed : (k : ℕ) (capture : Captured) (now : ℕ) (w : Window) → IsKept w → IsKept (filed k capture now w)
keeps_filed k capture now w kept = which (filing_of (capture_of w.jobs k) capture)
  where
    which : (f : Filing) → IsKept (filed_as f k now w)
    which Late = kept
    which Foreign = kept
    which Filed = keeps_ready now (with_result w.jobs k) w (keeps_result k w kept)
