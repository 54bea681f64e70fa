-- What giving back and a resize make of a window's damage and its lossy points: all jobs in hand are cancelled.
use Rattle.std.specs.Prelude.{ℕ, Bool, ◌&&◌, ◌||◌, not, List}
use Rattle.xp_base.specs.Points.{is_within}
use Rattle.rect_regions.specs.PointSets.{SamePoints, united, shared}
use Rattle.draw_sequencer.specs.InHand.{HeldJob, relieve}
use Rattle.damage_batch.specs.Pending.{BatchSeen, Puts}

-- what the jobs relieve is pending, beside what was: since now, where nothing was and something is
pub record GivesBack {R : Type 0} (has : R → ℕ → ℕ → Bool) (jobs : List (HeldJob R)) (old : BatchSeen R) (now : ℕ) (new : BatchSeen R) : Type 0 where
  pub points : SamePoints (has new.pending) (united (has old.pending) (relieve has jobs))
  pub put : Puts has old new.pending now new

-- what is pending and what is lossy once the window has another size
pub record CarriedSeen (R : Type 0) : Type 0 where
  pub pending : R
  pub lossy : R

-- pending are the points of the new size that are not in the old one, and those of it that were pending or that a job relieves
abbrev pub pends : ℕ → ℕ → ℕ → ℕ → (ℕ → ℕ → Bool) → (ℕ → ℕ → Bool) → ℕ → ℕ → Bool
pends w0 h0 w h pending relieved x y = is_within w h x y && (not (is_within w0 h0 x y) || (pending x y || relieved x y))

-- the points of a window of the size w0 by h0, carried over to the size w by h
pub record IsCarried {R : Type 0} (has : R → ℕ → ℕ → Bool) (w0 h0 w h : ℕ) (jobs : List (HeldJob R)) (was_pending was_lossy : R) (c : CarriedSeen R) : Type 0 where
  pub pending : SamePoints (has c.pending) (pends w0 h0 w h (has was_pending) (relieve has jobs))
  pub lossy : SamePoints (has c.lossy) (shared (has was_lossy) (is_within w h))
