-- A batch as a part of the model's window of one client.
use Rattle.std.specs.Prelude.{ℕ, ◌≡◌, Bool, true, false, nat_lt}
use Rattle.xp_base.specs.declared.due.Due.{Due}
use Rattle.xp_base.specs.declared.due.Due.TheVariants as D
use Rattle.rect_regions.specs.BitRows.{AllWithin}
use Rattle.delivery_model.specs.Grids.{points}
use Rattle.delivery_model.specs.Window.{Window}
use Rattle.delivery_model.specs.Events.{is_empty}
use Rattle.delivery_model.specs.Refusals.{earliest}
use Rattle.damage_batch.specs.Pending.{BatchSeen}

-- what the window, of this size, has pending, since when, and its delay are those of the batch
pub record IsBatchOf {R : Type 0} (has : R → ℕ → ℕ → Bool) (wide high : ℕ) (b : BatchSeen R) (w : Window) : Type 0 where
  pub within : AllWithin wide high (has b.pending)
  pub pending : w.pending ≡ points wide high (has b.pending)
  pub since : w.pending_since ≡ b.since
  pub delay : w.delay ≡ b.delay

-- what an answer says of the window: `Clean` of its damage alone, since a refresh may be due
abbrev pub TellsDue : ℕ → Window → Due → Type 0
TellsDue now w D.Clean = is_empty w.pending ≡ true
TellsDue now w (D.Early t) = (is_empty w.pending ≡ false) × (earliest w ≡ t) × (nat_lt now (earliest w) ≡ true)
TellsDue now w D.Now = (is_empty w.pending ≡ false) × (nat_lt now (earliest w) ≡ false)
