-- Jobs leave one after another.
use Rattle.std.proofs.Common.{◌≡◌, ℕ, ◌+◌, true, false, List, [], ◌∷◌, inl, inr, cond, refl, sym, ap, ◌∙◌, arith}
use Rattle.std.proofs.lemmas.Bool.{cases_Bool, cond-true, cond-false}
use Rattle.delivery_model.specs.Window.{Job, Window}
use Rattle.delivery_model.specs.Events.{queued, queue_ready, ready_count}

-- which jobs the window had plays no part
ready_any : (now : ℕ) (jobs : List Job) (w : Window) (some : List Job) → queue_ready now jobs (record w { jobs = some }) ≡ queue_ready now jobs w
ready_any now [] w some = refl
ready_any now (j ∷ jobs) w some = ap (λ (v : Window). cond j.encoded v (record w { jobs = j ∷ jobs })) (ready_any now jobs (queued now j w) some)

pub first_leaves : (now : ℕ) (j : Job) (jobs : List Job) (w : Window) → j.encoded ≡ true → queue_ready now jobs (queued now j (record w { jobs = jobs })) ≡ queue_ready now (j ∷ jobs) w
first_leaves now j jobs w encoded = ready_any now jobs (queued now j w) jobs ∙ sym (cond-true j.encoded _ (record w { jobs = j ∷ jobs }) encoded)

pub first_stays : (now : ℕ) (j : Job) (jobs : List Job) (w : Window) → j.encoded ≡ false → w.jobs ≡ j ∷ jobs → queue_ready now (j ∷ jobs) w ≡ w
first_stays now j jobs w waits is = cond-false j.encoded _ (record w { jobs = j ∷ jobs }) waits ∙ ap (λ (js : List Job). record w { jobs = js }) (sym is)

pub none_leaves : (now : ℕ) (w : Window) → w.jobs ≡ [] → queue_ready now [] w ≡ w
none_leaves now w is = ap (λ (js : List Job). record w { jobs = js }) (sym is)

pub leaving_takes : (now : ℕ) (jobs : List Job) (w : Window) → (queue_ready now jobs w).next_sequence ≡ w.next_sequence + ready_count jobs
leaving_takes now [] w = omega arith
leaving_takes now (j ∷ jobs) w = elim (cases_Bool j.encoded) [
  | inl is ↦ rw is (leaving_takes now jobs (queued now j w) ∙ omega arith)
  | inr isnt ↦ rw isnt (omega arith)
]
