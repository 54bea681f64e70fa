-- Sums, and how many points there are.
use Rattle.std.proofs.Common.{◌≡◌, ℕ, zero, suc, ◌+◌, ◌-◌, ◌<◌, ◌≤◌, Bool, true, false, cond, refl, sym, ap, ◌∙◌, arith, add-one}
use Rattle.rect_regions.specs.PointSets.{sum_below, count_row, count_within, count_of}

pub sum_below_none : (f : ℕ → ℕ) → sum_below 0 f ≡ 0
unfolding sum_below
sum_below_none f = refl

pub sum_below_suc : (n : ℕ) (f : ℕ → ℕ) → sum_below (suc n) f ≡ sum_below n f + f n
unfolding sum_below
sum_below_suc n f = refl

pub sum_below_more : (n : ℕ) (f : ℕ → ℕ) → sum_below (n + 1) f ≡ sum_below n f + f n
sum_below_more n f = rw add-one (sum_below_suc n f)

-- no item is counted twice
pub sum_below_few : (n : ℕ) (set : ℕ → Bool) → sum_below n (λ x. cond (set x) 1 0) ≤ n
sum_below_few zero set = rw sum_below_none (omega arith)
sum_below_few (suc n) set = few_more (set n) n (sum_below n (λ x. cond (set x) 1 0)) (sum_below (suc n) (λ x. cond (set x) 1 0)) (sum_below_few n set) (sum_below_suc n (λ x. cond (set x) 1 0))
  where
    few_more : (b : Bool) (n one all : ℕ) → one ≤ n → all ≡ one + cond b 1 0 → all ≤ suc n
    few_more true n one all few is = omega arith
    few_more false n one all few is = omega arith

-- the same items up to n
pub sum_below_same : (n : ℕ) (f g : ℕ → ℕ) → ((k : ℕ) → k < n → f k ≡ g k) → sum_below n f ≡ sum_below n g
sum_below_same zero f g same = sum_below_none f ∙ sym (sum_below_none g)
sum_below_same (suc n) f g same =
    sum_below_suc n f ∙ ap (λ (k : ℕ). k + f n) (sum_below_same n f g (λ k low. same k (omega arith))) ∙ ap (λ (k : ℕ). sum_below n g + k) (same n (omega arith)) ∙ sym (sum_below_suc n g)

-- items of 0 behind the first add nothing
pub sum_below_past : (n more : ℕ) (f : ℕ → ℕ) → ((k : ℕ) → n ≤ k → f k ≡ 0) → sum_below (n + more) f ≡ sum_below n f
sum_below_past n zero f none = ap (λ (k : ℕ). sum_below k f) (omega arith)
sum_below_past n (suc more) f none =
    let at : n + suc more ≡ suc (n + more) = omega arith in
    ap (λ (k : ℕ). sum_below k f) at ∙ sum_below_suc (n + more) f
    ∙ ap (λ (k : ℕ). sum_below (n + more) f + k) (none (n + more) (omega arith)) ∙ ap (λ (k : ℕ). k) (omega arith) ∙ sum_below_past n more f none

pub sum_below_wide : (n limit : ℕ) (f : ℕ → ℕ) → n ≤ limit → ((k : ℕ) → n ≤ k → f k ≡ 0) → sum_below limit f ≡ sum_below n f
sum_below_wide n limit f within none = let at : limit ≡ n + (limit - n) = omega arith in ap (λ (k : ℕ). sum_below k f) at ∙ sum_below_past n (limit - n) f none

pub sum_below_zero : (n : ℕ) (f : ℕ → ℕ) → ((k : ℕ) → f k ≡ 0) → sum_below n f ≡ 0
sum_below_zero zero f none = sum_below_none f
sum_below_zero (suc n) f none = sum_below_suc n f ∙ ap (λ (k : ℕ). k + f n) (sum_below_zero n f none) ∙ ap (λ (k : ℕ). 0 + k) (none n) ∙ omega arith

-- a set that lies in the first columns and rows has all its points there
pub count_of-within : (set : ℕ → ℕ → Bool) (wide high : ℕ) → wide ≤ 4096 → high ≤ 4096 → ((x y : ℕ) → wide ≤ x → set x y ≡ false) → ((x y : ℕ) → high ≤ y → set x y ≡ false)
    → count_of set ≡ count_within wide high set
count_of-within set wide high across down right below =
    let row : (y : ℕ) → count_row 4096 set y ≡ count_row wide set y =
    λ y. sum_below_wide wide 4096 (λ x. cond (set x y) 1 0) across (λ x far. ap (λ (b : Bool). cond b 1 0) (right x y far)) in
    sum_below_wide high 4096 (count_row 4096 set) down (λ y far. sum_below_zero 4096 (λ x. cond (set x y) 1 0) (λ x. ap (λ (b : Bool). cond b 1 0) (below x y far)))
    ∙ sum_below_same high (count_row 4096 set) (count_row wide set) (λ y low. row y)
