-- What is kept of a source, after what happens to it.
use Rattle.std.proofs.Common.{◌≡◌, ℕ, ◌+◌, ◌<◌, ◌≤◌, ◌^◌, Bool, true, false, ◌||◌, List, [], ◌∷◌, inl, inr, length, cond, refl, sym, ◌∙◌, ap, subst, arith}
use Rattle.std.specs.Prelude.{ℤ, pos, negsuc, nat_eq}
use Rattle.std.proofs.lemmas.Bool.{cases_Bool, false≢true}
use Rattle.std.specs.List.{AllByRecursion}
use Rattle.window_model.specs.Desktop.{IsSide}
use Rattle.rect_regions.specs.BitRows.{AllWithin}
use Rattle.delivery_model.specs.Window.{Sent}
use Rattle.delivery_model.specs.Events.{without_sent}
use Rattle.ack_tracker.specs.declared.ack.Ack.{Ack}
use Rattle.ack_tracker.specs.declared.ack.Ack.TheVariants as A
use Rattle.ack_tracker.specs.Unacknowledged.{without_at, AckGives}
use Rattle.draw_sequencer.specs.InHand.{HeldJob, relieve}
use Rattle.window_source.specs.Kept.{JobLies, AreSentBefore, IsSource}
use Rattle.window_source.proofs.Regions.{in_within}

pub without_before : (n : ℕ) (sent : List Sent) (k : ℕ) → AreSentBefore n sent → AreSentBefore n (without_sent sent k)
without_before n [] k all = tt
without_before n (s ∷ sent) k all = go (nat_eq s.sequence k) (without_before n sent k all.1)
  where
    go : (b : Bool) → AreSentBefore n (without_sent sent k) → AreSentBefore n (cond b sent (s ∷ without_sent sent k))
    go true rest = all.1
    go false rest = (all.0, rest)

pub without_fewer : (sent : List Sent) (k : ℕ) → length (without_sent sent k) ≤ length sent
without_fewer [] k = omega arith
without_fewer (s ∷ sent) k = go (nat_eq s.sequence k) (without_fewer sent k)
  where
    go : (b : Bool) → length (without_sent sent k) ≤ length sent → length (cond b sent (s ∷ without_sent sent k)) ≤ length (s ∷ sent)
    go true rest = omega arith
    go false rest = omega (arith, rest)

at_before : (n : ℕ) (sent : List Sent) (seq : ℤ) → AreSentBefore n sent → AreSentBefore n (without_at sent seq)
at_before n sent (pos k) all = without_before n sent k all
at_before n sent (negsuc k) all = all

at_fewer : (sent : List Sent) (seq : ℤ) → length (without_at sent seq) ≤ length sent
at_fewer sent (pos k) = without_fewer sent k
at_fewer sent (negsuc k) = omega arith

-- the draws that an acknowledgement leaves
pub ack_before : (n : ℕ) (old new : List Sent) (seq time : ℤ) (a : Ack) → AckGives old new seq time a → AreSentBefore n old → AreSentBefore n new
ack_before n old new seq time A.Counted gives all = subst (λ (l : List Sent). AreSentBefore n l) (sym gives.2) (at_before n old seq all)
ack_before n old new seq time (A.Again r) gives all = subst (λ (l : List Sent). AreSentBefore n l) (sym gives.2) (at_before n old seq all)
ack_before n old new seq time A.Stray gives all = subst (λ (l : List Sent). AreSentBefore n l) (sym gives.1) all

pub ack_fewer : (old new : List Sent) (seq time : ℤ) (a : Ack) → AckGives old new seq time a → length new ≤ length old
ack_fewer old new seq time A.Counted gives = subst (λ (l : List Sent). length l ≤ length old) (sym gives.2) (at_fewer old seq)
ack_fewer old new seq time (A.Again r) gives = subst (λ (l : List Sent). length l ≤ length old) (sym gives.2) (at_fewer old seq)
ack_fewer old new seq time A.Stray gives = subst (λ (l : List Sent). length l ≤ length old) (sym gives.1) (omega arith)

module _ {R : Type 0} (has : R → ℕ → ℕ → Bool) where
  pub reliefs_within : (wide high : ℕ) (jobs : List (HeldJob R)) → AllByRecursion (JobLies has wide high) jobs → AllWithin wide high (relieve has jobs)
  reliefs_within wide high [] all x y there = elim (false≢true there) [ ]
  reliefs_within wide high (j ∷ jobs) all x y there = elim (cases_Bool (has j.relief x y)) [
    | inl here ↦ in_within wide high j.capture.rect x y all.0.lies (all.0.relief x y here)
    | inr none ↦ reliefs_within wide high jobs all.1 x y (let more : (has j.relief x y || relieve has jobs x y) ≡ true = there in rw none at more)
  ]

  module _ (w h : ℕ) (jobs : List (HeldJob R)) (waiting blurred : R) (sent : List Sent) (next : ℕ) (kept : IsSource has w h jobs waiting blurred sent next) where
    pub kept_put : (pending : R) → AllWithin w h (has pending) → IsSource has w h jobs pending blurred sent next
    kept_put pending within = record {
      wide = kept.wide;
      high = kept.high;
      lie = kept.lie;
      pending = within;
      lossy = kept.lossy;
      rising = kept.rising;
      before = kept.before;
      numbered = kept.numbered;
      few = kept.few;
    }

    pub kept_given : (pending : R) → AllWithin w h (has pending) → IsSource has w h [] pending blurred sent next
    kept_given pending within = record {
      wide = kept.wide;
      high = kept.high;
      lie = tt;
      pending = within;
      lossy = kept.lossy;
      rising = tt;
      before = kept.before;
      numbered = kept.numbered;
      few = omega (arith, kept.few);
    }

    pub kept_sent : (left : List Sent) (pending : R) → AreSentBefore next left → length left ≤ length sent → AllWithin w h (has pending) → IsSource has w h jobs pending blurred left next
    kept_sent left pending before fewer within = record {
      wide = kept.wide;
      high = kept.high;
      lie = kept.lie;
      pending = within;
      lossy = kept.lossy;
      rising = kept.rising;
      before = before;
      numbered = kept.numbered;
      few = omega (arith, kept.few, fewer);
    }

    pub kept_resized : (wide high : ℕ) (pending lossy : R) → IsSide wide → IsSide high → AllWithin wide high (has pending) → AllWithin wide high (has lossy) → IsSource has wide high [] pending lossy sent next
    kept_resized wide high pending lossy across down within left = record {
      wide = across;
      high = down;
      lie = tt;
      pending = within;
      lossy = left;
      rising = tt;
      before = kept.before;
      numbered = kept.numbered;
      few = omega (arith, kept.few);
    }
