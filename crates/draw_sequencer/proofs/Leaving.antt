-- How many jobs are ready, and in which order they stand.
use Rattle.std.proofs.Common.{◌≡◌, ℕ, ◌+◌, Bool, Some, None, List, [], ◌∷◌, refl, ap, arith}
use Rattle.std.proofs.lemmas.Bool.Decides.{nat_tests}
use Rattle.rgb_encoders.specs.Encoding.{Encoding}
use Rattle.draw_sequencer.specs.InHand.{HeldJob, ReadyDraw, job_of, count_leaving, relieve}
use Rattle.draw_sequencer.specs.Filing.{with_encoding, PopGives}
use Rattle.draw_sequencer.specs.Kept.{AreDistinct}
use Rattle.draw_sequencer.specs.Laws.{count_ready, numbers_of}

module _ {R : Type 0} where
  leaving_absent : (jobs : List (HeldJob R)) (k : ℕ) → job_of jobs k ≡ None → count_leaving jobs k ≡ count_ready jobs
  leaving_absent [] k none = refl
  leaving_absent (j ∷ jobs) k none = grind (arith, nat_tests, leaving_absent jobs k)

  pub leaving_ready : (jobs : List (HeldJob R)) (k : ℕ) (e : Encoding) → AreDistinct jobs → count_leaving jobs k ≡ count_ready (with_encoding jobs k e)
  leaving_ready [] k e distinct = refl
  leaving_ready (j ∷ jobs) k e distinct =
      let alone = leaving_absent jobs j.number distinct.0 in
      let rest = leaving_ready jobs k e distinct.1 in
      grind (arith, nat_tests)

  pub ready_leaves : (jobs left : List (HeldJob R)) (r : ReadyDraw R) → PopGives jobs left (Some r) → count_ready jobs ≡ 1 + count_ready left
  ready_leaves jobs left r gives = ap count_ready gives

  none_waiting : (jobs : List (HeldJob R)) (left : List (HeldJob R)) → PopGives jobs left None → count_ready jobs ≡ 0
  none_waiting [] left gives = refl
  none_waiting (j ∷ jobs) left gives = rw gives.0 refl

  pub none_ready : (jobs left : List (HeldJob R)) → PopGives jobs left None → count_ready jobs ≡ 0
  none_ready jobs left gives = none_waiting jobs left gives

  pub order_stays : (jobs : List (HeldJob R)) (k : ℕ) (e : Encoding) → numbers_of (with_encoding jobs k e) ≡ numbers_of jobs
  order_stays [] k e = refl
  order_stays (j ∷ jobs) k e = grind (arith, order_stays jobs k e)

  pub reliefs_stay : (has : R → ℕ → ℕ → Bool) (jobs : List (HeldJob R)) (k : ℕ) (e : Encoding) (x y : ℕ) → relieve has (with_encoding jobs k e) x y ≡ relieve has jobs x y
  reliefs_stay has [] k e x y = refl
  reliefs_stay has (j ∷ jobs) k e x y = grind (arith, reliefs_stay has jobs k e x y)
