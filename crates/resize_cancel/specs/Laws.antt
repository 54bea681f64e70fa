-- What giving back and a resize come to in the model's window: where its parts were those before, they are those after.
use Rattle.std.specs.Prelude.{ℕ, ◌≡◌, Bool, ◌&&◌, List}
use Rattle.xp_base.specs.Points.{is_within}
use Rattle.delivery_model.specs.Grids.{points}
use Rattle.delivery_model.specs.Window.{Window}
use Rattle.delivery_model.specs.Events.{jobs_relieve, given_back, resized}
use Rattle.draw_sequencer.specs.InHand.{HeldJob, relieve}
use Rattle.damage_batch.specs.Pending.{BatchSeen, Puts}
use Rattle.damage_batch.specs.Delivery.{IsBatchOf}
use Rattle.resize_cancel.specs.Cancelled.{GivesBack, CarriedSeen, IsCarried}
use Rattle.resize_cancel.specs.Delivery.{jobs_seen, AreJobsOf}

-- the model's jobs relieve what the jobs relieve
abbrev pub ReliefsAreJobs : {R : Type 0} → (R → ℕ → ℕ → Bool) → Type 0
ReliefsAreJobs {R} has =
    (wide high : ℕ) (jobs : List (HeldJob R)) (x y : ℕ) → jobs_relieve (jobs_seen has wide high jobs) x y ≡ (is_within wide high x y && relieve has jobs x y)

abbrev pub GivenBackIsPending : {R : Type 0} → (R → ℕ → ℕ → Bool) → Type 0
GivenBackIsPending {R} has =
    (now : ℕ) (w : Window) (jobs : List (HeldJob R)) (old new : BatchSeen R) → IsBatchOf has w.desk.wide w.desk.high old w
    → AreJobsOf has w.desk.wide w.desk.high jobs w → GivesBack has jobs old now new
    → IsBatchOf has w.desk.wide w.desk.high new (given_back now w)

abbrev pub CarriedIsPending : {R : Type 0} → (R → ℕ → ℕ → Bool) → Type 0
CarriedIsPending {R} has =
    (w h now : ℕ) (window : Window) (jobs : List (HeldJob R)) (old new : BatchSeen R) (lossy : R) (c : CarriedSeen R)
    → IsBatchOf has window.desk.wide window.desk.high old window → AreJobsOf has window.desk.wide window.desk.high jobs window
    → IsCarried has window.desk.wide window.desk.high w h jobs old.pending lossy c → Puts has old c.pending now new
    → IsBatchOf has w h new (resized w h now window)

-- and so are the points themselves
abbrev pub CarriedArePoints : {R : Type 0} → (R → ℕ → ℕ → Bool) → Type 0
CarriedArePoints {R} has =
    (w h now : ℕ) (window : Window) (jobs : List (HeldJob R)) (old : BatchSeen R) (lossy : R) (c : CarriedSeen R)
    → IsBatchOf has window.desk.wide window.desk.high old window → AreJobsOf has window.desk.wide window.desk.high jobs window
    → IsCarried has window.desk.wide window.desk.high w h jobs old.pending lossy c
    → points w h (has c.pending) ≡ (resized w h now window).pending
