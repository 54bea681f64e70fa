-- Walks through the jobs in hand, up to a place and on from it.
use Rattle.std.proofs.Common.{◌≡◌, ℕ, ◌+◌, ◌<◌, ◌≤◌, true, false, List, [], ◌∷◌, ◌++◌, length, take, drop, get_or, set, Some, None, refl, sym, ◌∙◌, ap, arith, add-one}
use Rattle.std.specs.Prelude.{nat_eq}
use Rattle.std.proofs.lemmas.Bool.Decides.{nat_tests}
use Rattle.std.proofs.lemmas.List.{take-append-drop, take_all, take_more, drop_more, drop_all, set_split, set-get_or, get_or_default}
use Rattle.rgb_encoders.specs.Encoding.{Encoding}
use Rattle.draw_sequencer.specs.InHand.{HeldJob, job_of, is_ready, count_leaving}
use Rattle.draw_sequencer.specs.Filing.{with_encoding}
use Rattle.draw_sequencer.specs.Kept.{IsPlaceOf}

module _ {R : Type 0} where
  pub job_with : (jobs : List (HeldJob R)) (x : HeldJob R) (k : ℕ) → job_of jobs k ≡ None → nat_eq x.number k ≡ false → job_of (jobs ++ x ∷ []) k ≡ None
  job_with [] x k none differs = rw differs refl
  job_with (j ∷ jobs) x k none differs = grind (arith, nat_tests, job_with jobs x k)

  pub job_behind : (front : List (HeldJob R)) (x : HeldJob R) (behind : List (HeldJob R)) (k : ℕ) → job_of front k ≡ None → nat_eq x.number k ≡ true → job_of (front ++ x ∷ behind) k ≡ Some x
  job_behind [] x behind k none same = rw same refl
  job_behind (j ∷ front) x behind k none same = grind (arith, nat_tests, job_behind front x behind k)

  pub encoded_behind : (front : List (HeldJob R)) (x : HeldJob R) (behind : List (HeldJob R)) (k : ℕ) (e : Encoding) → job_of front k ≡ None → nat_eq x.number k ≡ true → with_encoding (front ++ x ∷ behind) k e ≡ front ++ record x { encoded = Some e } ∷ behind
  encoded_behind [] x behind k e none same = rw same refl
  encoded_behind (j ∷ front) x behind k e none same = grind (arith, nat_tests, encoded_behind front x behind k e)

  more_at : (jobs : List (HeldJob R)) (i : ℕ) (x : HeldJob R) → i < length jobs → x ≡ get_or jobs i x → take (i + 1) jobs ≡ take i jobs ++ x ∷ []
  more_at jobs i x within read =
      let here : get_or jobs i x ≡ x = sym read in
      rw here at (take_more jobs i x within)

  rest_at : (jobs : List (HeldJob R)) (i : ℕ) (x : HeldJob R) → i < length jobs → x ≡ get_or jobs i x → drop i jobs ≡ x ∷ drop (i + 1) jobs
  rest_at jobs i x within read =
      let here : get_or jobs i x ≡ x = sym read in
      rw here at (drop_more jobs i x within)

  pub absent_step : (jobs : List (HeldJob R)) (k i : ℕ) (x : HeldJob R) → i < length jobs → x ≡ get_or jobs i x → nat_eq x.number k ≡ false → job_of (take i jobs) k ≡ None → job_of (take (i + 1) jobs) k ≡ None
  absent_step jobs k i x within read differs none = rw (more_at jobs i x within read) (job_with (take i jobs) x k none differs)

  pub absent_end : (jobs : List (HeldJob R)) (k i : ℕ) → length jobs ≤ i → job_of (take i jobs) k ≡ None → job_of jobs k ≡ None
  absent_end jobs k i end none = rw (take_all i jobs end) at none

  pub place_found : (jobs : List (HeldJob R)) (k i : ℕ) (x : HeldJob R) → i < length jobs → x ≡ get_or jobs i x → nat_eq x.number k ≡ true → job_of (take i jobs) k ≡ None → IsPlaceOf jobs k i
  place_found jobs k i x within read same none = record {
    within = within;
    before = none;
    here = λ j other.
        let default = get_or_default jobs i j x within in
        let one : j ≡ x = other ∙ (default ∙ sym read) in
        let number : x.number ≡ k = grind (arith, nat_tests) in
        ap (λ (j : HeldJob R). j.number) one ∙ number;
  }

  pub ready_step : (jobs : List (HeldJob R)) (k i : ℕ) (x : HeldJob R) → i < length jobs → x ≡ get_or jobs i x → is_ready k x ≡ true → count_leaving jobs k ≡ i + count_leaving (drop i jobs) k → count_leaving jobs k ≡ (i + 1) + count_leaving (drop (i + 1) jobs) k
  ready_step jobs k i x within read ready count =
      let rest = ap (λ (l : List (HeldJob R)). count_leaving l k) (rest_at jobs i x within read) in
      let one : count_leaving (x ∷ drop (i + 1) jobs) k ≡ 1 + count_leaving (drop (i + 1) jobs) k = rw ready refl in
      omega (arith, count, rest, one)

  pub ready_stop : (jobs : List (HeldJob R)) (k i : ℕ) (x : HeldJob R) → i < length jobs → x ≡ get_or jobs i x → is_ready k x ≡ false → count_leaving jobs k ≡ i + count_leaving (drop i jobs) k → count_leaving jobs k ≡ i
  ready_stop jobs k i x within read waits count =
      let rest = ap (λ (l : List (HeldJob R)). count_leaving l k) (rest_at jobs i x within read) in
      let none : count_leaving (x ∷ drop (i + 1) jobs) k ≡ 0 = rw waits refl in
      omega (arith, count, rest, none)

  pub ready_end : (jobs : List (HeldJob R)) (k i : ℕ) → length jobs ≤ i → count_leaving jobs k ≡ i + count_leaving (drop i jobs) k → count_leaving jobs k ≡ i
  ready_end jobs k i end count =
      let rest = ap (λ (l : List (HeldJob R)). count_leaving l k) (drop_all i jobs end) in
      omega (arith, count, rest)

  -- the job at the place of a number
  number_same : (x : HeldJob R) (k : ℕ) → x.number ≡ k → nat_eq x.number k ≡ true
  number_same x k same = grind (arith, nat_tests)

  split_at : (jobs : List (HeldJob R)) (i : ℕ) (x : HeldJob R) → i < length jobs → x ≡ get_or jobs i x → jobs ≡ take i jobs ++ x ∷ drop (i + 1) jobs
  split_at jobs i x within read = sym (take-append-drop i jobs) ∙ ap (λ (l : List (HeldJob R)). take i jobs ++ l) (rest_at jobs i x within read)

  pub job_at : (jobs : List (HeldJob R)) (k i : ℕ) (x : HeldJob R) → IsPlaceOf jobs k i → x ≡ get_or jobs i x → job_of jobs k ≡ Some x
  job_at jobs k i x place read =
      ap (λ (l : List (HeldJob R)). job_of l k) (split_at jobs i x place.within read) ∙ job_behind (take i jobs) x (drop (i + 1) jobs) k place.before (number_same x k (place.here x read))

  pub encoded_at : (jobs : List (HeldJob R)) (k i : ℕ) (x : HeldJob R) (e : Encoding) → IsPlaceOf jobs k i → x ≡ get_or jobs i x → set jobs i (record x { encoded = Some e }) ≡ with_encoding jobs k e
  encoded_at jobs k i x e place read =
      let written : set jobs i (record x { encoded = Some e }) ≡ take i jobs ++ record x { encoded = Some e } ∷ drop (i + 1) jobs = rw add-one (set_split jobs i (record x { encoded = Some e }) place.within) in
      written ∙ sym (ap (λ (l : List (HeldJob R)). with_encoding l k e) (split_at jobs i x place.within read) ∙ encoded_behind (take i jobs) x (drop (i + 1) jobs) k e place.before (number_same x k (place.here x read)))

  -- writing back what was read changes nothing
  pub set_same : (jobs : List (HeldJob R)) (i : ℕ) (x : HeldJob R) → x ≡ get_or jobs i x → set jobs i x ≡ jobs
  set_same jobs i x read = ap (λ (j : HeldJob R). set jobs i j) read ∙ set-get_or jobs i x
