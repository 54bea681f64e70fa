-- What plans come to.
use Rattle.std.specs.Prelude.{ℕ, ◌≤◌, Bool, List, length}
use Rattle.rect_regions.specs.PointSets.{SamePoints}
use Rattle.rect_regions.specs.BitRows.{AllWithin}
use Rattle.delivery_model.specs.Grids.{has}
use Rattle.delivery_model.specs.Window.{Window}
use Rattle.delivery_model.specs.Events.{Planned, is_empty, region_taken}
use Rattle.delivery_model.specs.Plans.{IsPlan}
use Rattle.capture_jobs.specs.Planning.{IsPlanOf}

-- a plan of the points that a capture of the window takes, all of them in the window, a refresh where nothing is pending, is one as
-- the model of deliveries wants it
abbrev pub PlansAreTheModels : Type 0
PlansAreTheModels =
    (w : Window) (set : ℕ → ℕ → Bool) (lossy : Bool) (plan : List Planned) → IsPlanOf set (is_empty w.pending) lossy plan
    → SamePoints set (has (region_taken w)) → AllWithin w.desk.wide w.desk.high set → IsPlan w plan

-- a plan has at most 32 rectangles
abbrev pub PlansAreShort : Type 0
PlansAreShort = (set : ℕ → ℕ → Bool) (refresh lossy : Bool) (plan : List Planned) → IsPlanOf set refresh lossy plan → length plan ≤ 32
