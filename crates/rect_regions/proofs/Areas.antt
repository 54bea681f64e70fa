-- How many points rectangles have.
use Rattle.std.proofs.Common.{◌≡◌, ℕ, zero, suc, ◌+◌, ◌-◌, ◌*◌, ◌<◌, ◌≤◌, min, Bool, true, false, ◌&&◌, ◌||◌, cond, leb, ltb, List, [], ◌∷◌, ◌++◌, length, take, drop, get_or, inl, inr, refl, sym, ap, subst, ◌∙◌, arith, add_assoc, take-append-drop}
use Rattle.std.proofs.lemmas.List.{take_more, take_all}
use Rattle.std.proofs.Math.Nat.{mul-suc, mul-le-mul}
use Rattle.std.proofs.lemmas.Bool.{cases_Bool, cases_lt}
use Rattle.std.proofs.lemmas.Bool.Decides.{nat_tests}
use Rattle.xp_base.specs.Points.{Rectangle, IsRectangle, is_in, area}
use Rattle.rect_regions.specs.PointSets.{has, SamePoints, sum_below, count_row, count_of}
use Rattle.rect_regions.specs.Bands.{Each}
use Rattle.rect_regions.specs.Sweeping.{IsSorted}
use Rattle.rect_regions.proofs.Rects.{Each-front, IsOrdered-front}
use Rattle.rect_regions.proofs.Counts.{sum_below_none, sum_below_suc, sum_below_same, sum_below_zero, sum_below_few}
use Rattle.rect_regions.proofs.Uniqueness.{none_in_first}

-- sums of sums
pub sum_below_both : (n : ℕ) (f g h : ℕ → ℕ) → ((k : ℕ) → k < n → h k ≡ f k + g k) → sum_below n h ≡ sum_below n f + sum_below n g
sum_below_both zero f g h all = rw (sum_below_none h, sum_below_none f, sum_below_none g) refl
sum_below_both (suc n) f g h all =
    both_more (sum_below n h) (h n) (sum_below n f) (f n) (sum_below n g) (g n) (sum_below (suc n) h) (sum_below (suc n) f) (sum_below (suc n) g)
    (sum_below_suc n h) (sum_below_suc n f) (sum_below_suc n g) (sum_below_both n f g h (λ k low. all k (omega arith))) (all n (omega arith))
  where
    both_more : (a p b q c r x y z : ℕ) → x ≡ a + p → y ≡ b + q → z ≡ c + r → a ≡ b + c → p ≡ q + r → x ≡ y + z
    both_more a p b q c r x y z one two three sums last = omega arith

-- how many numbers below n are from one on, so many
pub sum_below_span : (n low wide : ℕ) → sum_below n (λ k. cond (leb low k && ltb k (low + wide)) 1 0) ≡ min n (low + wide) - min n low
sum_below_span zero low wide = rw (sum_below_none (λ k. cond (leb low k && ltb k (low + wide)) 1 0)) (omega arith)
sum_below_span (suc n) low wide =
    span_more n low wide (leb low n && ltb n (low + wide)) (sum_below n (λ k. cond (leb low k && ltb k (low + wide)) 1 0))
    (sum_below (suc n) (λ k. cond (leb low k && ltb k (low + wide)) 1 0))
    (sum_below_suc n (λ k. cond (leb low k && ltb k (low + wide)) 1 0)) (sum_below_span n low wide)
    (λ from until. grind (arith, nat_tests)) (λ before. grind (arith, nat_tests)) (λ behind. grind (arith, nat_tests))
  where
    span_more : (n low wide : ℕ) (b : Bool) (so_far all : ℕ) → all ≡ so_far + cond b 1 0 → so_far ≡ min n (low + wide) - min n low
        → (low ≤ n → n < low + wide → b ≡ true) → (n < low → b ≡ false) → (low + wide ≤ n → b ≡ false) → all ≡ min (suc n) (low + wide) - min (suc n) low
    span_more n low wide b so_far all more is on before behind = elim (cases_lt n low) [
      | inl early ↦ let off = before early in let more_here : all ≡ so_far + cond false 1 0 = subst (λ (v : Bool). all ≡ so_far + cond v 1 0) off more in omega arith
      | inr from ↦ elim (cases_lt n (low + wide)) [
        | inl until ↦ let here = on from until in let more_here : all ≡ so_far + cond true 1 0 = subst (λ (v : Bool). all ≡ so_far + cond v 1 0) here more in omega arith
        | inr late ↦ let off = behind late in let more_here : all ≡ so_far + cond false 1 0 = subst (λ (v : Bool). all ≡ so_far + cond v 1 0) off more in omega arith
      ]
    ]

-- each counted v times
pub sum_below_times : (n v : ℕ) (test : ℕ → Bool) → sum_below n (λ k. cond (test k) v 0) ≡ v * sum_below n (λ k. cond (test k) 1 0)
sum_below_times zero v test = rw (sum_below_none (λ k. cond (test k) v 0), sum_below_none (λ k. cond (test k) 1 0)) (omega arith)
sum_below_times (suc n) v test =
    sum_below_suc n (λ k. cond (test k) v 0)
    ∙ ap (λ (k : ℕ). k + cond (test n) v 0) (sum_below_times n v test)
    ∙ times_more v (sum_below n (λ k. cond (test k) 1 0)) (test n)
    ∙ ap (λ (k : ℕ). v * k) (sym (sum_below_suc n (λ k. cond (test k) 1 0)))
  where
    times_more : (v k : ℕ) (b : Bool) → v * k + cond b v 0 ≡ v * (k + cond b 1 0)
    times_more v k true = sym (mul-suc v k) ∙ ap (λ (n : ℕ). v * n) (omega arith)
    times_more v k false = omega arith

-- how many points a rectangle has in a row
row_on : (c b : Bool) → b ≡ true → (c && b) ≡ c
row_on true b h = h
row_on false b h = refl

row_off : (c b : Bool) → b ≡ false → (c && b) ≡ false
row_off true b h = h
row_off false b h = refl

pub count_row-rect : (r : Rectangle) (y : ℕ) → IsRectangle r → count_row 4096 (is_in r) y ≡ cond (leb r.y y && ltb y (r.y + r.h)) r.w 0
count_row-rect r y sized = elim (cases_Bool (leb r.y y && ltb y (r.y + r.h))) [
  | inl on ↦
      sum_below_same 4096 (λ x. cond (is_in r x y) 1 0) (λ x. cond (leb r.x x && ltb x (r.x + r.w)) 1 0)
      (λ x low. ap (λ (b : Bool). cond b 1 0) (row_on (leb r.x x && ltb x (r.x + r.w)) (leb r.y y && ltb y (r.y + r.h)) on))
      ∙ sum_below_span 4096 r.x r.w
      ∙ width r sized
      ∙ sym (ap (λ (b : Bool). cond b r.w 0) on)
  | inr off ↦
      sum_below_zero 4096 (λ x. cond (is_in r x y) 1 0)
      (λ x. ap (λ (b : Bool). cond b 1 0) (row_off (leb r.x x && ltb x (r.x + r.w)) (leb r.y y && ltb y (r.y + r.h)) off))
      ∙ sym (ap (λ (b : Bool). cond b r.w 0) off)
]
  where
    width : (r : Rectangle) → IsRectangle r → min 4096 (r.x + r.w) - min 4096 r.x ≡ r.w
    width r sized = omega (arith, sized.across)

-- how many points a rectangle has
pub count_of-rect : (r : Rectangle) → IsRectangle r → count_of (is_in r) ≡ area r
count_of-rect r sized =
    sum_below_same 4096 (count_row 4096 (is_in r)) (λ y. cond (leb r.y y && ltb y (r.y + r.h)) r.w 0) (λ y low. count_row-rect r y sized)
    ∙ sum_below_times 4096 r.w (λ y. leb r.y y && ltb y (r.y + r.h))
    ∙ ap (λ (k : ℕ). r.w * k) (sum_below_span 4096 r.y r.h ∙ height r sized)
  where
    height : (r : Rectangle) → IsRectangle r → min 4096 (r.y + r.h) - min 4096 r.y ≡ r.h
    height r sized = omega (arith, sized.down)

-- the points of one set, and those of another that has none of them
pub count_of-both : (one other all : ℕ → ℕ → Bool) → ((x y : ℕ) → all x y ≡ (one x y || other x y)) → ((x y : ℕ) → one x y ≡ true → other x y ≡ false)
    → count_of all ≡ count_of one + count_of other
count_of-both one other all same apart =
    sum_below_both 4096 (count_row 4096 one) (count_row 4096 other) (count_row 4096 all)
    (λ y low. sum_below_both 4096 (λ x. cond (one x y) 1 0) (λ x. cond (other x y) 1 0) (λ x. cond (all x y) 1 0)
    (λ x near. one_each (one x y) (other x y) (all x y) (same x y) (apart x y)))
  where
    one_each : (a b c : Bool) → c ≡ (a || b) → (a ≡ true → b ≡ false) → cond c 1 0 ≡ cond a 1 0 + cond b 1 0
    one_each true b c is apart = let off = apart refl in rw (is, off) refl
    one_each false b c is apart = rw is (zero_more (cond b 1 0))
      where
        zero_more : (k : ℕ) → k ≡ 0 + k
        zero_more k = omega arith

pub count_of-same : (one other : ℕ → ℕ → Bool) → SamePoints one other → count_of one ≡ count_of other
count_of-same one other same =
    sum_below_same 4096 (count_row 4096 one) (count_row 4096 other)
    (λ y low. sum_below_same 4096 (λ x. cond (one x y) 1 0) (λ x. cond (other x y) 1 0) (λ x near. ap (λ (b : Bool). cond b 1 0) (same x y)))

-- no set has more points than the square
sum_below_bound : (n limit : ℕ) (f : ℕ → ℕ) → ((k : ℕ) → f k ≤ limit) → sum_below n f ≤ limit * n
sum_below_bound zero limit f low = rw (sum_below_none f) (omega arith)
sum_below_bound (suc n) limit f low =
    let more = sum_below_suc n f in
    let rest = sum_below_bound n limit f low in
    let here = low n in
    let all = mul-suc limit n in
    omega arith

pub count_of-few : (set : ℕ → ℕ → Bool) → count_of set ≤ 4096 * 4096
count_of-few set = sum_below_bound 4096 4096 (count_row 4096 set) (λ y. sum_below_few 4096 (λ x. set x y))

pub count_of-none : count_of (has []) ≡ 0
count_of-none = sum_below_zero 4096 (count_row 4096 (has [])) (λ y. sum_below_zero 4096 (λ x. cond (has [] x y) 1 0) (λ x. refl))

-- the first rectangle and the others; and the same at the end of a list
pub count_of-first : (r : Rectangle) (rects : List Rectangle) → IsSorted (r ∷ rects) → count_of (has (r ∷ rects)) ≡ area r + count_of (has rects)
count_of-first r rects sorted =
    count_of-both (is_in r) (has rects) (has (r ∷ rects)) (λ x y. refl) (λ x y there. none_in_first r rects x y sorted.ordered.0 there)
    ∙ ap (λ (k : ℕ). k + count_of (has rects)) (count_of-rect r sorted.sized.0)

pub sorted_rest : (r : Rectangle) (rects : List Rectangle) → IsSorted (r ∷ rects) → IsSorted rects
sorted_rest r rects sorted = record { sized = sorted.sized.1; ordered = sorted.ordered.1 }

abbrev pub areas : List Rectangle → ℕ
areas [] = 0
areas (r ∷ rects) = area r + areas rects

areas-end : (rects : List Rectangle) (r : Rectangle) → areas (rects ++ r ∷ []) ≡ areas rects + area r
areas-end [] r = plus_zero (area r)
  where
    plus_zero : (n : ℕ) → n + 0 ≡ 0 + n
    plus_zero n = omega arith
areas-end (s ∷ rects) r = ap (λ (n : ℕ). area s + n) (areas-end rects r) ∙ sym (add_assoc (area s) (areas rects) (area r))

pub areas_of : (rects : List Rectangle) → IsSorted rects → count_of (has rects) ≡ areas rects
areas_of [] sorted = count_of-none
areas_of (r ∷ rects) sorted = count_of-first r rects sorted ∙ ap (λ (k : ℕ). area r + k) (areas_of rects (sorted_rest r rects sorted))

pub sorted_take : (i : ℕ) (rects : List Rectangle) → IsSorted rects → IsSorted (take i rects)
sorted_take i rects sorted =
    let parts : take i rects ++ drop i rects ≡ rects = take-append-drop i rects in
    let whole : IsSorted (take i rects ++ drop i rects) = subst (λ (l : List Rectangle). IsSorted l) (sym parts) sorted in
    record {
      sized = Each-front IsRectangle (take i rects) (drop i rects) whole.sized;
      ordered = IsOrdered-front (take i rects) (drop i rects) whole.ordered;
    }

-- the areas one after another
pub count_of-take_more : (rects : List Rectangle) (i : ℕ) (d : Rectangle) → IsSorted rects → i < length rects
    → count_of (has (take (i + 1) rects)) ≡ count_of (has (take i rects)) + area (get_or rects i d)
count_of-take_more rects i d sorted low =
    areas_of (take (i + 1) rects) (sorted_take (i + 1) rects sorted)
    ∙ ap areas (take_more rects i d low)
    ∙ areas-end (take i rects) (get_or rects i d)
    ∙ ap (λ (k : ℕ). k + area (get_or rects i d)) (sym (areas_of (take i rects) (sorted_take i rects sorted)))

-- each rectangle has a point at least
few_pieces : (rects : List Rectangle) → Each IsRectangle rects → length rects ≤ areas rects
few_pieces [] sized = omega arith
few_pieces (r ∷ rects) sized =
    let rest = few_pieces rects sized.1 in
    let one : 1 * 1 ≤ r.w * r.h = mul-le-mul sized.0.wide sized.0.high in
    omega arith

pub pieces_bound : (rects : List Rectangle) → IsSorted rects → length rects ≤ 4096 * 4096
pieces_bound rects sorted = omega (arith, few_pieces rects sorted.sized, areas_of rects sorted, count_of-few (has rects))

pub count_of-end : (rects : List Rectangle) (i : ℕ) → length rects ≤ i → count_of (has (take i rects)) ≡ count_of (has rects)
count_of-end rects i past = ap (λ (l : List Rectangle). count_of (has l)) (take_all i rects past)

pub count_more : (count more n so_far a : ℕ) → count ≡ so_far → more ≡ a → n ≡ so_far + a → count + more ≡ n
count_more count more n so_far a is it all = omega arith
