-- The points of a window that a client shows, or will show, by a lossy draw. A set of points is met by whether it has a point.
-- This project's own.
use Rattle.std.specs.Prelude.{ℕ, ◌≡◌, ◌⊎◌, ◌+◌, ◌<◌, ◌≤◌, Bool, true, false}
use Rattle.xp_base.specs.declared.coding.Coding.{Coding}
use Rattle.xp_base.specs.declared.coding.Coding.TheVariants as C
use Rattle.xp_base.specs.declared.due.Due.{Due}
use Rattle.xp_base.specs.declared.due.Due.TheVariants as D
use Rattle.xp_base.specs.Points.{Rectangle, is_in}
use Rattle.rect_regions.specs.PointSets.{SamePoints, HasNone, united, without, shared}

-- the points, and the moment of the last lossy draw
pub record LossySeen (R : Type 0) : Type 0 where
  pub points : R
  pub since : ℕ

-- nothing is lossy yet
pub record IsFresh {R : Type 0} (has : R → ℕ → ℕ → Bool) (l : LossySeen R) : Type 0 where
  pub none : HasNone (has l.points)
  pub since : l.since ≡ 0

pub record IsSame {R : Type 0} (has : R → ℕ → ℕ → Bool) (one other : LossySeen R) : Type 0 where
  pub points : SamePoints (has other.points) (has one.points)
  pub since : other.since ≡ one.since

-- no point is lossy any more; or only these are
pub record Clears {R : Type 0} (has : R → ℕ → ℕ → Bool) (old new : LossySeen R) : Type 0 where
  pub none : HasNone (has new.points)
  pub since : new.since ≡ old.since

abbrev pub keeping : {R : Type 0} → R → LossySeen R → LossySeen R
keeping points l = record l { points = points }

abbrev pub AreAmong : (ℕ → ℕ → Bool) → (ℕ → ℕ → Bool) → Type 0
AreAmong few many = (x y : ℕ) → few x y ≡ true → many x y ≡ true

-- an exact draw was queued: the lossy points in its rectangle stop being lossy
pub record Repairs {R : Type 0} (has : R → ℕ → ℕ → Bool) (r : Rectangle) (old new : LossySeen R) (freed : R) : Type 0 where
  pub left : SamePoints (has new.points) (without (has old.points) (is_in r))
  pub gone : SamePoints (has freed) (shared (has old.points) (is_in r))
  pub since : new.since ≡ old.since

-- a lossy draw was queued: its rectangle is lossy since now
pub record Coarsens {R : Type 0} (has : R → ℕ → ℕ → Bool) (r : Rectangle) (now : ℕ) (old new : LossySeen R) (freed : R) : Type 0 where
  pub more : SamePoints (has new.points) (united (has old.points) (is_in r))
  pub gone : HasNone (has freed)
  pub since : new.since ≡ now

abbrev pub Queues : {R : Type 0} → (R → ℕ → ℕ → Bool) → Rectangle → Coding → ℕ → LossySeen R → LossySeen R → R → Type 0
Queues has r C.Exact now old new gone = Repairs has r old new gone
Queues has r C.Lossy now old new gone = Coarsens has r now old new gone

-- whether the lossy points may be drawn again at this moment: 250 milliseconds after the last lossy draw they may, unless the
-- window is busy
abbrev pub IsDue : {R : Type 0} → (R → ℕ → ℕ → Bool) → LossySeen R → ℕ → Bool → Due → Type 0
IsDue has l now busy D.Clean = (busy ≡ true) ⊎ HasNone (has l.points)
IsDue has l now busy (D.Early t) = (busy ≡ false) × (HasNone (has l.points) → ⊥) × (t ≡ l.since + 250) × (now < t)
IsDue has l now busy D.Now = (busy ≡ false) × (HasNone (has l.points) → ⊥) × (l.since + 250 ≤ now)
