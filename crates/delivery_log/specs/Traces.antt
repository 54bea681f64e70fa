-- One point: what the log says there of each draw and job, and how that agrees with what the window has there.
use Rattle.std.specs.Prelude.{ℕ, ◌≡◌, Bool, true, false, not, ◌&&◌, ◌||◌, List, [], ◌∷◌, ◌++◌, map}
use Rattle.std.specs.List.{list_any}
use Rattle.delivery_model.specs.Window.{Job, Draw, Window}
use Rattle.delivery_model.specs.Point.{is_exact, draw_at, job_at, point_at}
use Rattle.delivery_model.specs.Invariant.{draws_of}
use Rattle.delivery_log.specs.Log.{Entry}
use Rattle.delivery_log.specs.Stale.{since_origin, is_capture, is_repair, is_lossy_over, written_draws}

-- a draw: whether it is a repair of the point, whether it is lossy and over it, whether it relieves it
pub record Trace : Type 0 where
  pub repair : Bool
  pub lossy : Bool
  pub relieves : Bool

-- a job in hand: whether it covers the point, exactly, was captured after its origin, relieves it
pub record Hand : Type 0 where
  pub covers : Bool
  pub exact : Bool
  pub after : Bool
  pub relieves : Bool

pub record Seen : Type 0 where
  -- the draws that were written, and those that wait
  pub written : List Trace
  pub waiting : List Trace
  pub hand : List Hand
  pub pending : Bool
  pub lossy : Bool

-- what it covers, whether it is exact, and what it relieves is as the invariant marks it (`draw_at`, `job_at`, `point_at`); what was
-- written relieves nothing any more
abbrev pub written_at : ℕ → ℕ → List Entry → ℕ → Trace
written_at x y log s = record { repair = is_repair x y log s; lossy = is_lossy_over x y log s; relieves = false }

abbrev pub waiting_at : ℕ → ℕ → List Entry → Draw → Trace
waiting_at x y log d = record { repair = is_repair x y log d.sequence; lossy = is_lossy_over x y log d.sequence; relieves = (draw_at d x y).relieves }

abbrev pub hand_at : ℕ → ℕ → List Entry → Job → Hand
hand_at x y log j = record {
  covers = (job_at j x y).covers;
  exact = is_exact (job_at j x y).coding;
  after = list_any (is_capture j.number) (since_origin x y log);
  relieves = (job_at j x y).relieves;
}

-- the log and the window at a point
abbrev pub seen_at : ℕ → ℕ → List Entry → Window → Seen
seen_at x y log w = record {
  written = map (written_at x y log) (written_draws log);
  waiting = map (waiting_at x y log) (draws_of w.packets);
  hand = map (hand_at x y log) w.jobs;
  pending = (point_at w x y).pending;
  lossy = (point_at w x y).lossy;
}

abbrev pub any_repair : List Trace → Bool
any_repair ts = list_any (λ (t : Trace). t.repair) ts

abbrev pub any_lossy : List Trace → Bool
any_lossy ts = list_any (λ (t : Trace). t.lossy) ts

abbrev pub any_trace_relieves : List Trace → Bool
any_trace_relieves ts = list_any (λ (t : Trace). t.relieves) ts

-- some draw is a repair, and no lossy one stands behind it
abbrev pub is_repaired : List Trace → Bool
is_repaired [] = false
is_repaired (t ∷ ts) = (t.repair && not (any_lossy ts)) || is_repaired ts

abbrev pub any_hand_relieves : List Hand → Bool
any_hand_relieves hs = list_any (λ (h : Hand). h.relieves) hs

-- some job in hand was captured before the origin; after it, and relieves the point; after it, and covers the point
abbrev pub any_before : List Hand → Bool
any_before hs = list_any (λ (h : Hand). not h.after) hs

abbrev pub any_after_relieves : List Hand → Bool
any_after_relieves hs = list_any (λ (h : Hand). h.after && h.relieves) hs

abbrev pub any_after_covers : List Hand → Bool
any_after_covers hs = list_any (λ (h : Hand). h.after && h.covers) hs

-- the first repair that was queued: where it waits, it relieves the point, and no draw behind it does; where it is written (`is`),
-- no waiting draw does
abbrev pub FirstRelieves : Bool → List Trace → Type 0
FirstRelieves true ts = any_trace_relieves ts ≡ false
FirstRelieves false [] = Unit {0}
FirstRelieves false (t ∷ ts) = (t.repair ≡ true → (t.relieves ≡ true) × (any_trace_relieves ts ≡ false)) × (t.repair ≡ false → FirstRelieves false ts)

-- behind a repair no lossy draw over the point was queued
abbrev pub NoneLossyBehind : List Trace → Type 0
NoneLossyBehind [] = Unit {0}
NoneLossyBehind (t ∷ ts) = (t.repair ≡ true → any_lossy ts ≡ false) × NoneLossyBehind ts

-- behind a job in hand that was captured after the origin and covers the point, none relieves it
abbrev pub NoneRelievesBehind : List Hand → Type 0
NoneRelievesBehind [] = Unit {0}
NoneRelievesBehind (h ∷ hs) = ((h.after && h.covers) ≡ true → any_hand_relieves hs ≡ false) × NoneRelievesBehind hs

-- jobs in hand that were captured before the origin stand in front of those captured after it
abbrev pub NoneBeforeBehind : List Hand → Type 0
NoneBeforeBehind [] = Unit {0}
NoneBeforeBehind (h ∷ hs) = (h.after ≡ true → any_before hs ≡ false) × NoneBeforeBehind hs

pub record PointAgrees (p : Seen) : Type 0 where
  -- pending, in the relief of a job in hand, or lossy, exactly where the queued draws do not repair the point
  pub queued : is_repaired (p.written ++ p.waiting) ≡ not ((p.pending || any_hand_relieves p.hand) || p.lossy)
  pub first : FirstRelieves (any_repair p.written) p.waiting
  pub last : NoneLossyBehind (p.written ++ p.waiting)
  -- where a job in hand was captured before the origin, the point is pending or in the relief of one captured after it
  pub before : any_before p.hand ≡ true → (p.pending || any_after_relieves p.hand) ≡ true
  -- a pending point is covered by no job in hand captured after its origin
  pub pending : p.pending ≡ true → any_after_covers p.hand ≡ false
  pub behind : NoneRelievesBehind p.hand
  pub order : NoneBeforeBehind p.hand
