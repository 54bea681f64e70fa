-- Lossy points after a row of draws: the last draw over a point decides.
use Rattle.std.specs.Prelude.{ℕ, Bool, true, false, List, [], ◌∷◌, if◌then◌else◌}
use Rattle.xp_base.specs.declared.coding.Coding.{Coding}
use Rattle.xp_base.specs.declared.coding.Coding.TheVariants as C
use Rattle.xp_base.specs.Points.{Rectangle, is_in}
use Rattle.lossy_refresh.specs.LossyPoints.{LossySeen, IsSame, Queues}

-- a draw that was queued, and when
pub record QueuedDraw : Type 0 where
  pub rect : Rectangle
  pub coding : Coding
  pub now : ℕ

-- the draws were queued one after another
abbrev pub QueuesAll : {R : Type 0} → (R → ℕ → ℕ → Bool) → List QueuedDraw → LossySeen R → LossySeen R → Type 0
QueuesAll has [] old new = IsSame has old new
QueuesAll {R} has (d ∷ draws) old new = (next : LossySeen R) × (gone : R) × Queues has d.rect d.coding d.now old next gone × QueuesAll has draws next new

abbrev pub is_lossy : Coding → Bool
is_lossy C.Exact = false
is_lossy C.Lossy = true

-- whether the last draw over the point is lossy; where there is none, whether it was
abbrev pub ends_lossy : ℕ → ℕ → List QueuedDraw → Bool → Bool
ends_lossy x y [] was = was
ends_lossy x y (d ∷ draws) was = ends_lossy x y draws (if is_in d.rect x y then is_lossy d.coding else was)

-- the moment of the last lossy draw; where there is none, the one that was kept
abbrev pub ends_since : List QueuedDraw → ℕ → ℕ
ends_since [] was = was
ends_since (d ∷ draws) was = ends_since draws (if is_lossy d.coding then d.now else was)
