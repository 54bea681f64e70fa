-- Jobs leave one after another.
use Rattle.std.proofs.Common.{◌≡◌, ℕ, ◌+◌, true, false, List, [], ◌∷◌, inl, inr, cond, refl, sym, ap, ◌∙◌, arith}
use Rattle.std.proofs.lemmas.Bool.{cases_Bool, cond-true, cond-false}
use Rattle.delivery_model.specs.Window.{Job, Window}
use Rattle.delivery_model.specs.Events.{queued, queue_ready, with_result, filed_as, Filed}
use Rattle.plain_window.specs.Plain.{ready_count}

-- which jobs the window had plays no part
ready_any : (now : ℕ) (jobs : List Job) (w : Window) (some : List Job) → queue_ready now jobs (record w { jobs = some }) ≡ queue_ready now jobs w
ready_any now [] w some = refl
ready_any now (j ∷ jobs) w some = ap (λ (v : Window). cond j.encoded v (record w { jobs = j ∷ jobs })) (ready_any now jobs (queued now j w) some)

pub ready_next : (now : ℕ) (j : Job) (jobs : List Job) (w : Window) → j.encoded ≡ true
    → queue_ready now jobs (queued now j (record w { jobs = jobs })) ≡ queue_ready now (j ∷ jobs) w
ready_next now j jobs w encoded = ready_any now jobs (queued now j w) jobs ∙ sym (cond-true j.encoded _ (record w { jobs = j ∷ jobs }) encoded)

pub ready_done : (now : ℕ) (j : Job) (jobs : List Job) (w : Window) → j.encoded ≡ false → w.jobs ≡ j ∷ jobs → queue_ready now (j ∷ jobs) w ≡ w
ready_done now j jobs w waits is = cond-false j.encoded _ (record w { jobs = j ∷ jobs }) waits ∙ ap (λ (js : List Job). record w { jobs = js }) (sym is)

pub ready_none : (now : ℕ) (w : Window) → w.jobs ≡ [] → queue_ready now [] w ≡ w
ready_none now w is = ap (λ (js : List Job). record w { jobs = js }) (sym is)

pub ready_from : (now : ℕ) (jobs : List Job) (w marked new : Window) → marked ≡ record w { jobs = jobs } → new ≡ queue_ready now marked.jobs marked → new ≡ queue_ready now jobs w
ready_from now jobs w marked new is ready = ready ∙ (ap (λ (v : Window). queue_ready now v.jobs v) is ∙ ready_any now jobs w jobs)

-- each draw that leaves takes a number
pub next_ready : (now : ℕ) (jobs : List Job) (w : Window) → (queue_ready now jobs w).next_sequence ≡ w.next_sequence + ready_count jobs
next_ready now [] w = omega arith
next_ready now (j ∷ jobs) w = elim (cases_Bool j.encoded) [
  | inl is ↦ rw is (next_ready now jobs (queued now j w) ∙ omega arith)
  | inr isnt ↦ rw isnt (omega arith)
]

pub next_filed : (k now : ℕ) (w : Window) → (filed_as Filed k now w).next_sequence ≡ w.next_sequence + ready_count (with_result w.jobs k)
next_filed k now w = next_ready now (with_result w.jobs k) w
