-- What the results of a capture leave, where they are filed in the order of its jobs. This project's own.
use Rattle.std.specs.Prelude.{◌≡◌, true, List, [], map}
use Rattle.delivery_model.specs.Grids.{points, has}
use Rattle.delivery_model.specs.Window.{Job, Window}
use Rattle.delivery_model.specs.Events.{is_empty}
use Rattle.delivery_log.specs.Rest.{Result}

-- the results of these jobs, in their order
abbrev pub results_of : List Job → List Result
results_of jobs = map (λ (j : Job). record { number = j.number; capture = j.capture }) jobs

-- v is w drawn out: no job is in hand and nothing is pending; and no point is lossy where the capture was a refresh, that is, where
-- nothing was pending before it
pub record IsDrawnOut (w v : Window) : Type 0 where
  pub drawn : v.jobs ≡ []
  pub taken : is_empty v.pending ≡ true
  pub exact : is_empty w.pending ≡ true → is_empty (points v.desk.wide v.desk.high (has v.lossy)) ≡ true
