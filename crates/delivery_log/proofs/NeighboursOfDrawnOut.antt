-- Statements that are near to the law of windows that are drawn out, and wrong. Each is refuted by a window that is computed.
use Rattle.std.proofs.Common.{◌≡◌, ℕ, Bool, true, false, List, [], ◌∷◌, sym, refl, ap, ◌∙◌}
use Rattle.std.proofs.lemmas.Bool.{false≢true}
use Rattle.std.proofs.lemmas.List.Elements.{All-nil}
use Rattle.delivery_model.specs.Grids.{points, each_point, has, number, number_in}
use Rattle.delivery_model.specs.Window.{Job, Window}
use Rattle.delivery_model.specs.Events.{is_empty, Planned, region_taken, jobs_of, captured, queued, filed}
use Rattle.delivery_model.specs.Plans.{IsPlan}
use Rattle.delivery_model.proofs.Grids.{has-empty}
use Rattle.delivery_log.specs.Rest.{is_none, file_all}
use Rattle.delivery_log.specs.DrawnOut.{results_of, IsDrawnOut}
use Rattle.delivery_log.proofs.Situations.{rect, coarse, result}
use Rattle.delivery_log.proofs.Neighbours.{end_of, pends, in_hand, pends_lossy_plan}

-- a plan with no rectangle, where no point is taken
nothing_planned : (w : Window) → ((x y : ℕ) → has (region_taken w) x y ≡ false) → IsPlan w []
nothing_planned w none = record {
  within = All-nil _;
  apart = tt;
  covers = λ x y is. absurd (false≢true (sym (none x y) ∙ is));
  lossy = All-nil _;
  refresh = λ empty. All-nil _;
}

-- Wrong: that a capture of pending points leaves nothing lossy. A lossy draw does.
abbrev DamageDrawsExact : Type 0
DamageDrawsExact = (plan : List Planned) (first now : ℕ) (w : Window) → w.jobs ≡ [] → IsPlan w plan
    → let v = file_all now (results_of (jobs_of w.desk (region_taken w) first plan)) (captured plan first w) in is_empty (points v.desk.wide v.desk.high (has v.lossy)) ≡ true

abbrev one_lossy : List Planned
one_lossy = coarse (rect 0 0 1 1) ∷ []

still_lossy : let v = file_all 500 (results_of (jobs_of (end_of pends).desk (region_taken (end_of pends)) 1 one_lossy)) (captured one_lossy 1 (end_of pends)) in is_empty (points v.desk.wide v.desk.high (has v.lossy)) ≡ false
unfolding each_point has number number_in is_empty
still_lossy = refl

not_exact : DamageDrawsExact → ⊥
not_exact claim = false≢true (sym still_lossy ∙ claim one_lossy 1 500 (end_of pends) refl pends_lossy_plan.planned)

-- wrong: that jobs from before the capture play no part. Theirs are not among the results.
abbrev OldJobsLeave : Type 0
OldJobsLeave = (plan : List Planned) (first now : ℕ) (w : Window) → IsPlan w plan → IsDrawnOut w (file_all now (results_of (jobs_of w.desk (region_taken w) first plan)) (captured plan first w))

handed_none : is_empty (region_taken (end_of in_hand)) ≡ true
unfolding each_point has number number_in is_empty
handed_none = refl

not_old : OldJobsLeave → ⊥
not_old claim = false≢true (ap (λ (jobs : List Job). is_none jobs) (claim [] 2 500 (end_of in_hand) (nothing_planned (end_of in_hand) none)).drawn)
  where
    none : (x y : ℕ) → has (region_taken (end_of in_hand)) x y ≡ false
    none x y = has-empty (region_taken (end_of in_hand)) x y handed_none

-- wrong: that the jobs behind the first stay in hand whatever they are. One that has its result leaves with it.
abbrev RestAlwaysStays : Type 0
RestAlwaysStays = (now : ℕ) (j : Job) (jobs : List Job) (w : Window) → w.jobs ≡ j ∷ jobs → filed j.number j.capture now w ≡ queued now j (record w { jobs = jobs })

abbrev job_numbered : ℕ → Bool → Job
job_numbered k encoded = record { number = k; capture = result (rect 0 0 1 1) (0 ∷ []); relief = record { wide = 1; high = 1; marks = true ∷ [] }; encoded = encoded }

-- the first of two jobs waits
abbrev in_hand_two : Bool → Window
in_hand_two encoded = record (end_of pends) { jobs = job_numbered 1 false ∷ job_numbered 2 encoded ∷ [] }

not_always : RestAlwaysStays → ⊥
not_always claim = false≢true (sym (ap (λ (w : Window). is_none w.jobs) (claim 500 (job_numbered 1 false) (job_numbered 2 true ∷ []) (in_hand_two true) refl)))

-- wrong: that each result takes its job out of hand. Behind one that waits it waits too.
abbrev AnyResultLeaves : Type 0
AnyResultLeaves = (now : ℕ) (i j : Job) (w : Window) → w.jobs ≡ i ∷ j ∷ [] → i.encoded ≡ false → (filed j.number j.capture now w).jobs ≡ i ∷ []

abbrev is_single : List Job → Bool
is_single [] = false
is_single (j ∷ jobs) = is_none jobs

not_any : AnyResultLeaves → ⊥
not_any claim = false≢true (ap (λ (jobs : List Job). is_single jobs) (claim 500 (job_numbered 1 false) (job_numbered 2 false) (in_hand_two false) refl refl))
