-- What a capture has to be, and so what an event has to be. This project's own rule of planning, as far as deliveries depend on it.
use Rattle.std.specs.Prelude.{ℕ, ◌≡◌, true, false, Option, Some, List, [], ◌∷◌, All}
use Rattle.std.specs.List.{list_any}
use Rattle.xp_base.specs.declared.coding.Coding.TheVariants as C
use Rattle.xp_base.specs.Points.{LiesIn, is_in}
use Rattle.delivery_model.specs.Grids.{has}
use Rattle.delivery_model.specs.Window.{Window}
use Rattle.delivery_model.specs.Events.{Planned, is_empty, region_taken, Event, Capture, step}
use Rattle.delivery_model.specs.Refusals.{is_clean}

-- no two rectangles share a point
abbrev pub AreApart : List Planned → Type 0
AreApart [] = Unit {0}
AreApart (p ∷ plan) = ((x y : ℕ) → is_in p.rect x y ≡ true → list_any (λ (q : Planned). is_in q.rect x y) plan ≡ false) × AreApart plan

-- what a plan gives: its rectangles lie in the window, share no point and have each point taken; a lossy one has no other
-- point; and a refresh is exact
pub record IsPlan (w : Window) (plan : List Planned) : Type 0 where
  pub within : All (λ (p : Planned). LiesIn w.desk.wide w.desk.high p.rect) plan
  pub apart : AreApart plan
  pub covers : (x y : ℕ) → has (region_taken w) x y ≡ true → list_any (λ (p : Planned). is_in p.rect x y) plan ≡ true
  pub lossy : All (λ (p : Planned). p.coding ≡ C.Lossy → (x y : ℕ) → is_in p.rect x y ≡ true → has (region_taken w) x y ≡ true) plan
  pub refresh : is_empty w.pending ≡ true → All (λ (p : Planned). p.coding ≡ C.Exact) plan

-- a capture is made where it is not clean, and follows a plan
pub record IsCaptureOf (w : Window) (plan : List Planned) : Type 0 where
  pub unclean : is_clean w ≡ false
  pub planned : IsPlan w plan

abbrev pub IsEvent : Option Window → Event → Type 0
IsEvent (Some w) (Capture plan first) = IsCaptureOf w plan
IsEvent o e = Unit {0}

abbrev pub AreEvents : (ℕ → ℕ) → Option Window → List Event → Type 0
AreEvents lossy_shows o [] = Unit {0}
AreEvents lossy_shows o (e ∷ events) = IsEvent o e × AreEvents lossy_shows (step lossy_shows o e) events
