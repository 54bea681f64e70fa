-- What is kept of the jobs in hand when one is added and when one has its encoding.
use Rattle.std.proofs.Common.{◌≡◌, ℕ, ◌+◌, ◌*◌, ◌<◌, ◌≤◌, ◌^◌, Bool, true, false, List, [], ◌∷◌, ◌++◌, length, None, refl, sym, ◌∙◌, arith, length-append}
use Rattle.std.specs.Prelude.{nat_eq}
use Rattle.std.proofs.lemmas.Bool.Decides.{nat_tests}
use Rattle.xp_base.specs.Points.{area}
use Rattle.rgb_encoders.specs.Encoding.{Encoding}
use Rattle.draw_sequencer.specs.InHand.{HeldJob, job_of, all_pixels}
use Rattle.draw_sequencer.specs.Filing.{with_encoding}
use Rattle.draw_sequencer.specs.Kept.{AreDistinct, AreSmall, IsSequencer}
use Rattle.draw_sequencer.proofs.Walks.{job_with}

module _ {R : Type 0} where
  distinct_with : (jobs : List (HeldJob R)) (x : HeldJob R) → AreDistinct jobs → job_of jobs x.number ≡ None → AreDistinct (jobs ++ x ∷ [])
  distinct_with [] x distinct none = (refl, tt)
  distinct_with (j ∷ jobs) x distinct none =
      let other : nat_eq x.number j.number ≡ false = grind (arith, nat_tests) in
      let rest : job_of jobs x.number ≡ None = grind (arith, nat_tests) in
      (job_with jobs x j.number distinct.0 other, distinct_with jobs x distinct.1 rest)

  small_with : (jobs : List (HeldJob R)) (x : HeldJob R) → AreSmall jobs → area x.capture.rect ≤ 4096 * 4096 → AreSmall (jobs ++ x ∷ [])
  small_with [] x small one = (one, tt)
  small_with (j ∷ jobs) x small one = (small.0, small_with jobs x small.1 one)

  pixels_with : (jobs : List (HeldJob R)) (x : HeldJob R) → all_pixels (jobs ++ x ∷ []) ≡ all_pixels jobs + area x.capture.rect
  pixels_with [] x = omega arith
  pixels_with (j ∷ jobs) x = omega (arith, pixels_with jobs x)

  pixels_bound : (jobs : List (HeldJob R)) → AreSmall jobs → all_pixels jobs ≤ 16777216 * length jobs
  pixels_bound [] small = omega arith
  pixels_bound (j ∷ jobs) small = omega (arith, small.0, pixels_bound jobs small.1)

  pub pixels_fit : (jobs : List (HeldJob R)) (pixels more : ℕ) → IsSequencer jobs pixels → more ≤ 4096 * 4096 → pixels + more < 2 ^ 64
  pixels_fit jobs pixels more kept small = omega (arith, kept.counted, kept.few, pixels_bound jobs kept.small)

  pub kept_with : (jobs : List (HeldJob R)) (x : HeldJob R) (pixels : ℕ) → IsSequencer jobs pixels → job_of jobs x.number ≡ None → length jobs < 2 ^ 31 → area x.capture.rect ≤ 4096 * 4096 → IsSequencer (jobs ++ x ∷ []) (pixels + area x.capture.rect)
  kept_with jobs x pixels kept none few small = record {
    distinct = distinct_with jobs x kept.distinct none;
    small = small_with jobs x kept.small small;
    few = omega (arith, length-append jobs (x ∷ []));
    counted = omega (arith, kept.counted, pixels_with jobs x);
  }

  absent_encoded : (jobs : List (HeldJob R)) (k : ℕ) (e : Encoding) (m : ℕ) → job_of jobs m ≡ None → job_of (with_encoding jobs k e) m ≡ None
  absent_encoded [] k e m none = refl
  absent_encoded (j ∷ jobs) k e m none = grind (arith, nat_tests, absent_encoded jobs k e m)

  distinct_one : (j : HeldJob R) (jobs rest : List (HeldJob R)) (k : ℕ) (e : Encoding) (b : Bool) → nat_eq j.number k ≡ b → AreDistinct (j ∷ jobs) → job_of rest j.number ≡ None → AreDistinct rest → rest ≡ with_encoding jobs k e → AreDistinct (with_encoding (j ∷ jobs) k e)
  distinct_one j jobs rest k e true same distinct none others is = rw same distinct
  distinct_one j jobs rest k e false differs distinct none others is = rw (differs, ← is) (none, others)

  distinct_encoded : (jobs : List (HeldJob R)) (k : ℕ) (e : Encoding) → AreDistinct jobs → AreDistinct (with_encoding jobs k e)
  distinct_encoded [] k e distinct = tt
  distinct_encoded (j ∷ jobs) k e distinct = distinct_one j jobs (with_encoding jobs k e) k e (nat_eq j.number k) refl distinct (absent_encoded jobs k e j.number distinct.0) (distinct_encoded jobs k e distinct.1) refl

  small_one : (j : HeldJob R) (jobs rest : List (HeldJob R)) (k : ℕ) (e : Encoding) (b : Bool) → nat_eq j.number k ≡ b → AreSmall (j ∷ jobs) → AreSmall rest → rest ≡ with_encoding jobs k e → AreSmall (with_encoding (j ∷ jobs) k e)
  small_one j jobs rest k e true same small others is = rw same small
  small_one j jobs rest k e false differs small others is = rw (differs, ← is) (small.0, others)

  small_encoded : (jobs : List (HeldJob R)) (k : ℕ) (e : Encoding) → AreSmall jobs → AreSmall (with_encoding jobs k e)
  small_encoded [] k e small = tt
  small_encoded (j ∷ jobs) k e small = small_one j jobs (with_encoding jobs k e) k e (nat_eq j.number k) refl small (small_encoded jobs k e small.1) refl

  length_encoded : (jobs : List (HeldJob R)) (k : ℕ) (e : Encoding) → length (with_encoding jobs k e) ≡ length jobs
  length_encoded [] k e = refl
  length_encoded (j ∷ jobs) k e = grind (arith, length_encoded jobs k e)

  pixels_encoded : (jobs : List (HeldJob R)) (k : ℕ) (e : Encoding) → all_pixels (with_encoding jobs k e) ≡ all_pixels jobs
  pixels_encoded [] k e = refl
  pixels_encoded (j ∷ jobs) k e = grind (arith, pixels_encoded jobs k e)

  pub kept_encoded : (jobs : List (HeldJob R)) (pixels k : ℕ) (e : Encoding) → IsSequencer jobs pixels → IsSequencer (with_encoding jobs k e) pixels
  kept_encoded jobs pixels k e kept = record {
    distinct = distinct_encoded jobs k e kept.distinct;
    small = small_encoded jobs k e kept.small;
    few = rw (length_encoded jobs k e) kept.few;
    counted = kept.counted ∙ sym (pixels_encoded jobs k e);
  }
