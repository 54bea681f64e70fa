use Rattle.std.proofs.Common.{◌≡◌, ◌∙◌, Bool, not, ◌&&◌, ◌||◌, arith}
use Rattle.std.proofs.lemmas.Bool.Decides.{nat_tests}
use Rattle.xp_base.specs.Points.{is_within}
use Rattle.delivery_model.specs.Grids.{has}
use Rattle.delivery_model.proofs.OwedSteps.{owed_resized}
use Rattle.delivery_model.specs.Events.{jobs_relieve}
use Rattle.delivery_model.proofs.Grids.{has-points}
use Rattle.delivery_model.proofs.laws.resize_keeps_the_overlap.Goals as goal

pub returns-clause-lossy : goal.returns-clause-lossy
returns-clause-lossy c w h now old x y =
    has-points w h (λ x y. has old.lossy x y && (is_within old.desk.wide old.desk.high x y && is_within w h x y)) x y ∙ cut (is_within w h x y) (has old.lossy x y) (is_within old.desk.wide old.desk.high x y)
  where
    cut : (now lossy before : Bool) → (now && (lossy && (before && now))) ≡ (now && (lossy && before))
    cut now lossy before = grind (arith, nat_tests)

pub returns-clause-pending : goal.returns-clause-pending
returns-clause-pending c w h now old x y =
    has-points w h (λ x y. not (is_within old.desk.wide old.desk.high x y && is_within w h x y) || (has old.pending x y || jobs_relieve old.jobs x y)) x y
    ∙ cut (is_within w h x y) (has old.pending x y || jobs_relieve old.jobs x y) (is_within old.desk.wide old.desk.high x y)
  where
    cut : (now owed before : Bool) → (now && (not (before && now) || owed)) ≡ (now && (not before || owed))
    cut now owed before = grind (arith, nat_tests)

pub returns-clause-owed : goal.returns-clause-owed
returns-clause-owed c = owed_resized
