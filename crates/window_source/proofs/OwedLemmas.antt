-- Owed points, counted place by place.
use Rattle.std.proofs.Common.{◌≡◌, ℕ, ◌+◌, ◌*◌, ◌/◌, ◌%◌, ◌<◌, ◌≤◌, Bool, true, false, List, inl, inr, map, take, length, get_or, cond, refl, sym, ◌∙◌, ap, arith}
use Rattle.std.specs.List.{count_by, range_with_len}
use Rattle.std.proofs.lemmas.Bool.{cases_Bool}
use Rattle.std.proofs.lemmas.List.{take_all}
use Rattle.std.proofs.lemmas.List.FromFn.{get_or-map-range_with_len, length-map-range_with_len}
use Rattle.std.proofs.lemmas.List.Sums.{count_by_more_no, count_by_more_yes}
use Rattle.delivery_model.specs.Grids.{each_point}

-- of the first points of a window of this size, row by row
abbrev pub count_first : (ℕ → ℕ → Bool) → ℕ → ℕ → ℕ → ℕ
count_first test wide high n = count_by (λ b. b) (take n (each_point wide high test))

pub count_more : (test : ℕ → ℕ → Bool) (wide high k n : ℕ) → n ≡ count_first test wide high k → k < wide * high → cond (test (k % wide) (k / wide)) (n + 1) n ≡ count_first test wide high (k + 1)
unfolding each_point
count_more test wide high k n is less =
    let at : ℕ → Bool = λ j. test (j % wide) (j / wide) in
    let all : List Bool = map at (range_with_len 0 (wide * high)) in
    let from : 0 + k ≡ k = omega arith in
    let here : get_or all k false ≡ at k = get_or-map-range_with_len at 0 (wide * high) k k false less from in
    let sized : length all ≡ wide * high = length-map-range_with_len at 0 (wide * high) in
    let within : k < length all = omega (arith, sized, less) in
    elim (cases_Bool (at k)) [
      | inl there ↦ ap (λ b. cond b (n + 1) n) there ∙ ap (λ m. m + 1) is ∙ sym (count_by_more_yes (λ b. b) all k false within (here ∙ there))
      | inr none ↦ ap (λ b. cond b (n + 1) n) none ∙ is ∙ sym (count_by_more_no (λ b. b) all k false within (here ∙ none))
    ]

pub count_all : (test : ℕ → ℕ → Bool) (wide high k : ℕ) → wide * high ≤ k → count_first test wide high k ≡ count_by (λ b. b) (each_point wide high test)
unfolding each_point
count_all test wide high k all =
    let at : ℕ → Bool = λ j. test (j % wide) (j / wide) in
    let points : List Bool = map at (range_with_len 0 (wide * high)) in
    let sized : length points ≡ wide * high = length-map-range_with_len at 0 (wide * high) in
    let most : length points ≤ k = omega (arith, sized, all) in
    ap (count_by (λ b. b)) (take_all k points most)
