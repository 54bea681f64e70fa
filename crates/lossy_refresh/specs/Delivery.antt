-- The lossy points as a part of the model's window of one client.
use Rattle.std.specs.Prelude.{ℕ, ◌≡◌, Bool, true, false, nat_lt}
use Rattle.xp_base.specs.declared.due.Due.{Due}
use Rattle.xp_base.specs.declared.due.Due.TheVariants as D
use Rattle.rect_regions.specs.BitRows.{AllWithin}
use Rattle.delivery_model.specs.Grids.{points}
use Rattle.delivery_model.specs.Window.{Window}
use Rattle.delivery_model.specs.Refusals.{earliest, is_clean}
use Rattle.lossy_refresh.specs.LossyPoints.{LossySeen}

-- the window, of this size, has these lossy points, since then
pub record IsLossyOf {R : Type 0} (has : R → ℕ → ℕ → Bool) (wide high : ℕ) (l : LossySeen R) (w : Window) : Type 0 where
  pub within : AllWithin wide high (has l.points)
  pub lossy : w.lossy ≡ points wide high (has l.points)
  pub since : w.lossy_since ≡ l.since

-- what an answer says of a window in which nothing is pending
abbrev pub TellsDue : ℕ → Window → Due → Type 0
TellsDue now w D.Clean = is_clean w ≡ true
TellsDue now w (D.Early t) = (is_clean w ≡ false) × (earliest w ≡ t) × (nat_lt now (earliest w) ≡ true)
TellsDue now w D.Now = (is_clean w ≡ false) × (nat_lt now (earliest w) ≡ false)
