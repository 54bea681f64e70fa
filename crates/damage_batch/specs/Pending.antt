-- The points of a window that were damaged and not yet captured. A set of points is met by whether it has a point.
use Rattle.std.specs.Prelude.{ℕ, ◌≡◌, ◌+◌, ◌<◌, ◌≤◌, Bool}
use Rattle.xp_base.specs.declared.due.Due.{Due}
use Rattle.xp_base.specs.declared.due.Due.TheVariants as D
use Rattle.rect_regions.specs.PointSets.{HasNone}
use Rattle.damage_batch.specs.Delay.{first_delay, delay_captured, delay_acknowledged}

-- the points that are pending, since when there are some, and how long they wait, in milliseconds
pub record BatchSeen (R : Type 0) : Type 0 where
  pub pending : R
  pub since : ℕ
  pub delay : ℕ

-- nothing is pending yet
pub record IsFresh {R : Type 0} (has : R → ℕ → ℕ → Bool) (now : ℕ) (b : BatchSeen R) : Type 0 where
  pub none : HasNone (has b.pending)
  pub since : b.since ≡ now
  pub delay : b.delay ≡ first_delay

-- since when something is pending, once these points are in place of those: since now where there were none and are some, and else
-- since when it was
pub record IsSince {R : Type 0} (has : R → ℕ → ℕ → Bool) (old : BatchSeen R) (pending : R) (now since : ℕ) : Type 0 where
  pub begins : HasNone (has old.pending) → (HasNone (has pending) → ⊥) → since ≡ now
  pub goes_on : (HasNone (has old.pending) → ⊥) → since ≡ old.since
  pub nothing : HasNone (has pending) → since ≡ old.since

-- other points are pending
pub record Puts {R : Type 0} (has : R → ℕ → ℕ → Bool) (old : BatchSeen R) (pending : R) (now : ℕ) (new : BatchSeen R) : Type 0 where
  pub kept : new ≡ record old { pending = pending; since = new.since }
  pub since : IsSince has old pending now new.since

-- nothing is pending any more
pub record Empties {R : Type 0} (has : R → ℕ → ℕ → Bool) (old new : BatchSeen R) : Type 0 where
  pub none : HasNone (has new.pending)
  pub kept : new ≡ record old { pending = new.pending }

-- whether what is pending may be captured at this moment: the delay after the first damage it may
abbrev pub IsDue : {R : Type 0} → (R → ℕ → ℕ → Bool) → BatchSeen R → ℕ → Due → Type 0
IsDue has b now D.Clean = HasNone (has b.pending)
IsDue has b now (D.Early t) = (HasNone (has b.pending) → ⊥) × (t ≡ b.since + b.delay) × (now < t)
IsDue has b now D.Now = (HasNone (has b.pending) → ⊥) × (b.since + b.delay ≤ now)

-- the delay after a capture and after an acknowledgement
abbrev pub slowed : {R : Type 0} → ℕ → BatchSeen R → BatchSeen R
slowed load b = record b { delay = delay_captured load b.delay }

abbrev pub quickened : {R : Type 0} → ℕ → BatchSeen R → BatchSeen R
quickened load b = record b { delay = delay_acknowledged load b.delay }
