-- The parts of a source, after what happens to them.
use Rattle.std.proofs.Common.{◌≡◌, ℕ, ◌+◌, Bool, true, false, Option, Some, None, List, [], ◌∷◌, length, cond, refl, sym, ◌∙◌, ap, arith}
use Rattle.std.specs.Prelude.{nat_eq}
use Rattle.std.specs.Option.{option_map}
use Rattle.xp_base.specs.Captures.{Captured}
use Rattle.xp_base.specs.Points.{area}
use Rattle.delivery_model.specs.Grids.{Points, points}
use Rattle.delivery_model.specs.Window.{Sent, Window}
use Rattle.delivery_model.specs.Events.{started, put_pending, given_back, counted, resized, capture_of}
use Rattle.draw_sequencer.specs.InHand.{HeldJob, job_of, all_pixels}
use Rattle.damage_batch.specs.Pending.{BatchSeen}
use Rattle.damage_batch.specs.Delivery.{IsBatchOf}
use Rattle.lossy_refresh.specs.LossyPoints.{LossySeen}
use Rattle.lossy_refresh.specs.Delivery.{IsLossyOf}
use Rattle.resize_cancel.specs.Delivery.{jobs_seen}
use Rattle.window_source.specs.Source.{SourceSeen, seen, alone, after, source_of, begun, job_pixels}

module _ {R : Type 0} (has : R → ℕ → ℕ → Bool) where
  pub pixels_seen : (wide high : ℕ) (jobs : List (HeldJob R)) → job_pixels (jobs_seen has wide high jobs) ≡ all_pixels jobs
  pixels_seen wide high [] = refl
  pixels_seen wide high (j ∷ jobs) = ap (λ n. area j.capture.rect + n) (pixels_seen wide high jobs)

  pub length_seen : (wide high : ℕ) (jobs : List (HeldJob R)) → length (jobs_seen has wide high jobs) ≡ length jobs
  length_seen wide high [] = refl
  length_seen wide high (j ∷ jobs) = omega (arith, length_seen wide high jobs)

  pub capture_seen : (wide high : ℕ) (jobs : List (HeldJob R)) (k : ℕ) → capture_of (jobs_seen has wide high jobs) k ≡ option_map (λ (j : HeldJob R). j.capture) (job_of jobs k)
  capture_seen wide high [] k = refl
  capture_seen wide high (j ∷ jobs) k = go (nat_eq j.number k) (capture_seen wide high jobs k)
    where
      go : (b : Bool) → capture_of (jobs_seen has wide high jobs) k ≡ option_map (λ (i : HeldJob R). i.capture) (job_of jobs k)
          → cond b (Some j.capture) (capture_of (jobs_seen has wide high jobs) k) ≡ option_map (λ (i : HeldJob R). i.capture) (cond b (Some j) (job_of jobs k))
      go true rest = refl
      go false rest = rest

  module _ (conn wid wide high : ℕ) (mapped : Bool) (jobs : List (HeldJob R)) (old new : BatchSeen R) (lossy : LossySeen R) (sent : List Sent) (next now : ℕ) where
    abbrev pub was : SourceSeen
    was = seen has conn wid wide high mapped jobs old lossy sent next

    -- other points are pending
    pub put_seen : (set : Points) → IsBatchOf has wide high new (put_pending set now (alone was)) → seen has conn wid wide high mapped jobs new lossy sent next ≡ after (put_pending set now) was
    put_seen set of = λ i. record was { pending = sym of.pending i; pending_since = sym of.since i; delay = sym of.delay i }

    -- all jobs are given back
    pub given_seen : IsBatchOf has wide high new (given_back now (alone was)) → seen has conn wid wide high mapped [] new lossy sent next ≡ after (given_back now) was
    given_seen of = λ i. record was { jobs = []; pending = sym of.pending i; pending_since = sym of.since i; delay = sym of.delay i }

    -- an acknowledgement leaves these draws
    pub counted_seen : (left : List Sent) → IsBatchOf has wide high new (counted left (alone was)) → seen has conn wid wide high mapped jobs new lossy left next ≡ after (counted left) was
    counted_seen left of = λ i. record was { unacknowledged = left; pending = sym of.pending i; pending_since = sym of.since i; delay = sym of.delay i }

    -- the window has another size
    pub resized_seen : (w h : ℕ) (kept : R) → IsBatchOf has w h new (resized w h now (alone was)) → points w h (has kept) ≡ (resized w h now (alone was)).lossy
        → seen has conn wid w h mapped [] new (record lossy { points = kept }) sent next ≡ after (resized w h now) was
    resized_seen w h kept of left = λ i. record was {
      wide = w;
      high = h;
      jobs = [];
      pending = sym of.pending i;
      pending_since = sym of.since i;
      delay = sym of.delay i;
      lossy = left i;
    }

  -- as it begins
  pub started_seen : (conn wid wide high now : ℕ) (batch : BatchSeen R) (lossy : LossySeen R) (jobs : List (HeldJob R)) (sent : List Sent) → jobs ≡ [] → sent ≡ []
      → IsBatchOf has wide high batch (started (record { wide = wide; high = high; numbers = [] }) now) → IsLossyOf has wide high lossy (started (record { wide = wide; high = high; numbers = [] }) now)
      → seen has conn wid wide high false jobs batch lossy sent 1 ≡ begun conn wid wide high now
  started_seen conn wid wide high now batch lossy jobs sent no_job no_draw of exact = λ i. record {
    conn = conn;
    wid = wid;
    wide = wide;
    high = high;
    mapped = false;
    jobs = jobs_seen has wide high (no_job i);
    pending = sym of.pending i;
    pending_since = sym of.since i;
    lossy = sym exact.lossy i;
    lossy_since = sym exact.since i;
    unacknowledged = no_draw i;
    next_sequence = 1;
    delay = sym of.delay i;
  }

  -- pending points of another size are put in
  pub resized_batch : (w h now : ℕ) (window : Window) (new : BatchSeen R) (pending : R) → IsBatchOf has w h new (put_pending (points w h (has pending)) now window)
      → points w h (has pending) ≡ (resized w h 0 window).pending → IsBatchOf has w h new (resized w h now window)
  resized_batch w h now window new pending of same = record {
    within = of.within;
    pending = sym same ∙ of.pending;
    since = ap (λ (set : Points). (put_pending set now window).pending_since) (sym same) ∙ of.since;
    delay = of.delay;
  }
