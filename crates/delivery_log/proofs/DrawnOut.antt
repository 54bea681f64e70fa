-- Results that are filed in the order of their jobs draw a window out.
use Rattle.std.proofs.Common.{◌≡◌, ℕ, ◌+◌, true, false, List, [], ◌∷◌, ◌++◌, refl, sym, ap, ◌∙◌}
use Rattle.std.specs.Prelude.{nat_eq}
use Rattle.std.specs.List.{list_any}
use Rattle.std.proofs.lemmas.Bool.{eq-eqb, false_from_ne_true, false≢true, cond-false}
use Rattle.std.proofs.lemmas.Slice.Eq.{bytes_eq-Decides}
use Rattle.xp_base.specs.declared.coding.Coding.{Coding}
use Rattle.xp_base.specs.declared.coding.Coding.TheVariants as C
use Rattle.xp_base.specs.Points.{Rectangle, is_in, is_within}
use Rattle.xp_base.specs.Captures.{Captured}
use Rattle.delivery_model.specs.Grids.{Points, Grid, has, points}
use Rattle.delivery_model.specs.Window.{Job, Window}
use Rattle.delivery_model.specs.Events.{is_empty, Planned, region_taken, job_of, jobs_of, captured, queued, queue_ready, with_result, capture_of, same_coding, same_rectangle, same_capture, Filing, Filed, filing_of, filed_as, filed}
use Rattle.delivery_model.specs.Plans.{IsPlan}
use Rattle.delivery_model.proofs.Grids.{none-is_empty}
use Rattle.delivery_log.specs.Rest.{Result, file_all, FrontWaits}
use Rattle.delivery_log.specs.DrawnOut.{results_of, IsDrawnOut}
use Rattle.delivery_log.proofs.Turns.{file_all_stays, IsCovered, covered_files, covered_refresh, pending_captured}

-- a capture is the same as itself
same_rectangle-self : (r : Rectangle) → same_rectangle r r ≡ true
same_rectangle-self r = rw (eq-eqb r.x r.x refl, eq-eqb r.y r.y refl, eq-eqb r.w r.w refl, eq-eqb r.h r.h refl) refl

same_coding-self : (c : Coding) → same_coding c c ≡ true
same_coding-self C.Exact = refl
same_coding-self C.Lossy = refl

same_capture-self : (c : Captured) → same_capture c c ≡ true
same_capture-self c = rw (same_rectangle-self c.rect, same_coding-self c.coding, (bytes_eq-Decides c.pixels c.pixels).1 refl) refl

-- the first job's result is filed, and the jobs behind it stay in hand
rest_stays : (now : ℕ) (jobs : List Job) (w : Window) → FrontWaits jobs → queue_ready now jobs w ≡ record w { jobs = jobs }
rest_stays now [] w waits = refl
rest_stays now (j ∷ jobs) w waits = cond-false j.encoded (queue_ready now jobs (queued now j w)) (record w { jobs = j ∷ jobs }) waits

pub front_leaves_rest : (now : ℕ) (j : Job) (jobs : List Job) (w : Window) → w.jobs ≡ j ∷ jobs → FrontWaits jobs
    → (filing_of (capture_of w.jobs j.number) j.capture ≡ Filed) × (filed j.number j.capture now w ≡ queued now j (record w { jobs = jobs }))
front_leaves_rest now j jobs w is waits = (files, ap (λ (f : Filing). filed_as f j.number now w) files ∙ (leaves ∙ rest_stays now jobs (queued now j w) waits))
  where
    same : nat_eq j.number j.number ≡ true
    same = eq-eqb j.number j.number refl

    files : filing_of (capture_of w.jobs j.number) j.capture ≡ Filed
    files = rw (is, same, same_capture-self j.capture) refl

    marked : with_result w.jobs j.number ≡ record j { encoded = true } ∷ jobs
    marked = rw (is, same) refl

    leaves : filed_as Filed j.number now w ≡ queue_ready now jobs (queued now j w)
    leaves = ap (λ (js : List Job). queue_ready now js w) marked

-- so one after another, until none is left
made_wait : (desk : Grid) (region : Points) (k : ℕ) (plan : List Planned) → FrontWaits (jobs_of desk region k plan)
made_wait desk region k [] = tt
made_wait desk region k (p ∷ plan) = refl

results_empty_made : (now : ℕ) (desk : Grid) (region : Points) (k : ℕ) (plan : List Planned) (w : Window) → w.jobs ≡ jobs_of desk region k plan
    → (file_all now (results_of (jobs_of desk region k plan)) w).jobs ≡ []
results_empty_made now desk region k [] w is = is
results_empty_made now desk region k (p ∷ plan) w is =
    ap (λ (v : Window). (file_all now (results_of behind) v).jobs) (front_leaves_rest now (job_of desk region k p) behind w is (made_wait desk region (k + 1) plan)).1
    ∙ results_empty_made now desk region (k + 1) plan (queued now (job_of desk region k p) (record w { jobs = behind })) refl
  where
    behind : List Job
    behind = jobs_of desk region (k + 1) plan

-- a refresh leaves no lossy point: each would lie in the rectangle of a job in hand
uncovered_none : (w : Window) → w.jobs ≡ [] → IsCovered w → is_empty (points w.desk.wide w.desk.high (has w.lossy)) ≡ true
uncovered_none w none covers = none-is_empty w.desk.wide w.desk.high (has w.lossy) unlossy
  where
    unlossy : (x y : ℕ) → is_within w.desk.wide w.desk.high x y ≡ true → has w.lossy x y ≡ false
    unlossy x y within = false_from_ne_true (has w.lossy x y) (λ lossy. false≢true (sym (ap (λ (js : List Job). list_any (λ (j : Job). is_in j.capture.rect x y) js) none) ∙ covers.covered x y within lossy))

pub ordered_results_draw_out : (plan : List Planned) (first now : ℕ) (w : Window) → w.jobs ≡ [] → IsPlan w plan
    → IsDrawnOut w (file_all now (results_of (jobs_of w.desk (region_taken w) first plan)) (captured plan first w))
ordered_results_draw_out plan first now w none planned = record {
  drawn = drawn;
  taken = ap is_empty (file_all_stays now results taken).pending ∙ pending_captured plan first w;
  exact = λ empty. uncovered_none (file_all now results taken) drawn (covered_files now results taken (covered_refresh plan first w none empty planned));
}
  where
    results : List Result
    results = results_of (jobs_of w.desk (region_taken w) first plan)

    taken : Window
    taken = captured plan first w

    drawn : (file_all now results taken).jobs ≡ []
    drawn = results_empty_made now w.desk (region_taken w) first plan taken (ap (λ (js : List Job). js ++ jobs_of w.desk (region_taken w) first plan) none)
