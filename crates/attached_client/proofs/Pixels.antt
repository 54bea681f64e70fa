-- The pixels in hand, source by source.
use Rattle.std.proofs.Common.{◌≡◌, ℕ, ◌<◌, ◌≤◌, ◌+◌, ◌*◌, suc, min, List, [], ◌∷◌, ◌++◌, take, length, get_or, sym, ap, ◌∙◌, arith}
use Rattle.std.proofs.Math.Seq.{take-suc}
use Rattle.std.proofs.lemmas.Bool.Decides.{nat_tests}
use Rattle.std.proofs.lemmas.List.{take_all}
use Rattle.std.proofs.lemmas.List.Folds.{sum_by-replicate}
use Rattle.std.proofs.lemmas.List.Sums.{sum_by-append}
use Rattle.xp_base.specs.Counts.{greatest}
use Rattle.window_source.specs.Source.{SourceSeen, job_pixels}
use Rattle.attached_client.specs.Client.{pixels_in_hand}

abbrev pub of_first : List SourceSeen → ℕ → ℕ
of_first sources i = pixels_in_hand (take i sources)

kept_least : (a b : ℕ) → min (min a greatest + b) greatest ≡ min (a + b) greatest
kept_least a b = grind (arith, nat_tests)

pub one_more : (sources : List SourceSeen) (pixels i : ℕ) (s : SourceSeen) (pixels' : ℕ) → pixels ≡ min (of_first sources i) greatest → i < length sources → s ≡ get_or sources i s
    → pixels' ≡ min (pixels + job_pixels s.jobs) greatest → pixels' ≡ min (of_first sources (i + 1)) greatest
one_more sources pixels i s pixels' is within at more =
    more ∙ ap (λ n. min (n + job_pixels s.jobs) greatest) is ∙ kept_least (of_first sources i) (job_pixels s.jobs) ∙ ap (λ n. min n greatest) (sym step)
  where
    taken : take (i + 1) sources ≡ take i sources ++ s ∷ []
    taken = ap (λ n. take n sources) (let same : i + 1 ≡ suc i = omega arith in same) ∙ take-suc sources i s within ∙ ap (λ (t : SourceSeen). take i sources ++ t ∷ []) (sym at)

    one : pixels_in_hand (s ∷ []) ≡ job_pixels s.jobs
    one = sum_by-replicate (λ (t : SourceSeen). job_pixels t.jobs) 1 s ∙ (let same : 1 * job_pixels s.jobs ≡ job_pixels s.jobs = omega arith in same)

    step : of_first sources (i + 1) ≡ of_first sources i + job_pixels s.jobs
    step = ap pixels_in_hand taken ∙ sum_by-append (λ (t : SourceSeen). job_pixels t.jobs) (take i sources) (s ∷ []) ∙ ap (λ n. of_first sources i + n) one

pub all_pixels : (sources : List SourceSeen) (pixels i : ℕ) → pixels ≡ min (of_first sources i) greatest → length sources ≤ i → pixels ≡ min (pixels_in_hand sources) greatest
all_pixels sources pixels i is all = is ∙ ap (λ (l : List SourceSeen). min (pixels_in_hand l) greatest) (take_all i sources all)
