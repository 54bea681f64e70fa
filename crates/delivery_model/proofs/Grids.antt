-- What stands at a point of a set or a grid that was made point by point.
use Rattle.std.proofs.Common.{◌≡◌, inl, inr, ℕ, zero, suc, ◌+◌, ◌-◌, ◌*◌, ◌/◌, ◌%◌, ◌<◌, ◌≤◌, Bool, true, false, ◌&&◌, List, [], ◌∷◌, Some, None, map, get_or, refl, sym, ap, ◌∙◌, subst, arith, cond}
use Rattle.std.specs.Prelude.{slice_index}
use Rattle.std.specs.List.{list_any, range_with_len}
use Rattle.std.proofs.Math.Nat.{mod-lt, div-lt_iff_lt-mul, mul_comm}
use Rattle.std.proofs.lemmas.Bool.{cases_Bool, and_parts, and_from, or_parts, ltb-true, lt-ltb, cond-false, not-true}
use Rattle.std.proofs.lemmas.Bool.Decides.{nat_tests}
use Rattle.std.proofs.lemmas.List.FromFn.{get_or-map-range_with_len}
use Rattle.std.proofs.lemmas.Nat.{mul-add-lt, div-mul-add, mod-mul-add}
use Rattle.xp_base.specs.Points.{Rectangle, is_in, is_within}
use Rattle.xp_base.specs.Grid.{place_of}
use Rattle.delivery_model.specs.Grids.{each_point, Points, points, has, Grid, grid, number, shown_at, cut, number_in}
use Rattle.delivery_model.specs.Events.{is_empty}

-- the place y * w + x of a list made point by point
pub get_or-each_point : {A : Type 0} (w h : ℕ) (f : ℕ → ℕ → A) (x y : ℕ) (d : A) → x < w → y < h → get_or (each_point w h f) (y * w + x) d ≡ f x y
unfolding each_point
get_or-each_point {A} w h f x y d across down =
    let low : y * w + x < w * h = mul-add-lt y w x h down across in
    let there : get_or (each_point w h f) (y * w + x) d ≡ f ((y * w + x) % w) ((y * w + x) / w) =
    get_or-map-range_with_len (λ k. f (k % w) (k / w)) 0 (w * h) (y * w + x) (y * w + x) d low (omega arith) in
    there ∙ (ap (λ (k : ℕ). f k ((y * w + x) / w)) (mod-mul-add y w x across) ∙ ap (f x) (div-mul-add y w x across))

within_parts : (w h x y : ℕ) → is_within w h x y ≡ true → (x < w) × (y < h)
within_parts w h x y inside = let both = and_parts _ _ inside in (ltb-true x w both.0, ltb-true y h both.1)

pub has-points : (w h : ℕ) (f : ℕ → ℕ → Bool) (x y : ℕ) → has (points w h f) x y ≡ (is_within w h x y && f x y)
unfolding has
has-points w h f x y = elim (cases_Bool (is_within w h x y)) [
  | inl inside ↦ let low = within_parts w h x y inside in
      ap (λ (b : Bool). is_within w h x y && b) (get_or-each_point w h f x y false low.0 low.1)
  | inr outside ↦ rw outside refl
]

-- at a point of the window
pub has-points_within : (w h : ℕ) (f : ℕ → ℕ → Bool) (x y : ℕ) → is_within w h x y ≡ true → has (points w h f) x y ≡ f x y
has-points_within w h f x y inside = has-points w h f x y ∙ ap (λ (b : Bool). b && f x y) inside

pub has-inside : (set : Points) (x y : ℕ) → has set x y ≡ true → is_within set.wide set.high x y ≡ true
unfolding has
has-inside set x y there = (and_parts _ _ there).0

pub number-grid : (w h : ℕ) (f : ℕ → ℕ → ℕ) (x y : ℕ) → is_within w h x y ≡ true → number (grid w h f) x y ≡ f x y
unfolding number
number-grid w h f x y inside = let low = within_parts w h x y inside in get_or-each_point w h f x y 0 low.0 low.1

pub shown-grid : (w h : ℕ) (f : ℕ → ℕ → ℕ) (x y : ℕ) → shown_at (Some (grid w h f)) x y ≡ cond (is_within w h x y) (Some (f x y)) None
shown-grid w h f x y = elim (cases_Bool (is_within w h x y)) [
  | inl inside ↦ ap (λ (n : ℕ). cond (is_within w h x y) (Some n) None) (number-grid w h f x y inside)
  | inr outside ↦ cond-false _ _ _ outside ∙ sym (cond-false _ _ _ outside)
]

-- an empty set has no point
any_none : (marks : List Bool) (k : ℕ) → list_any (λ m. m) marks ≡ false → get_or marks k false ≡ false
any_none [] k none = refl
any_none (m ∷ marks) zero none = (or_parts _ _ none).0
any_none (m ∷ marks) (suc k) none = any_none marks k (or_parts _ _ none).1

pub has-empty : (set : Points) (x y : ℕ) → is_empty set ≡ true → has set x y ≡ false
unfolding has is_empty
has-empty set x y empty = grind (arith, nat_tests, any_none set.marks (place_of set.wide x y), not-true (list_any (λ (m : Bool). m) set.marks) empty)

-- two that were made point by point are alike where they agree in each point
map_range_alike : {A : Type 0} (f g : ℕ → A) (a n : ℕ) → ((k : ℕ) → k < a + n → f k ≡ g k) → map f (range_with_len a n) ≡ map g (range_with_len a n)
map_range_alike f g a zero same = refl
map_range_alike f g a (suc n) same = rw (same a (omega arith), map_range_alike f g (a + 1) n (λ k low. same k (omega (arith, low)))) refl

some_columns : (w h k : ℕ) → k < w * h → 0 < w
some_columns zero h k low = absurd (omega (arith, low))
some_columns (suc w) h k low = omega arith

pub each_point_alike : {A : Type 0} (w h : ℕ) (f g : ℕ → ℕ → A) → ((x y : ℕ) → is_within w h x y ≡ true → f x y ≡ g x y) → each_point w h f ≡ each_point w h g
unfolding each_point
each_point_alike w h f g same = map_range_alike (λ k. f (k % w) (k / w)) (λ k. g (k % w) (k / w)) 0 (w * h) (λ k low. same (k % w) (k / w) (within k low))
  where
    within : (k : ℕ) → k < 0 + w * h → is_within w h (k % w) (k / w) ≡ true
    within k below =
        let low : k < w * h = omega (arith, below) in
        let some : 0 < w = some_columns w h k low in
        let across : k % w < w = mod-lt k some in
        let down : k / w < h = (div-lt_iff_lt-mul some).1 (subst (λ (n : ℕ). k < n) (mul_comm w h) low) in
        and_from _ _ (lt-ltb (k % w) w across) (lt-ltb (k / w) h down)

pub points_alike : (w h : ℕ) (f g : ℕ → ℕ → Bool) → ((x y : ℕ) → is_within w h x y ≡ true → f x y ≡ g x y) → points w h f ≡ points w h g
points_alike w h f g same = ap (λ (marks : List Bool). record { wide = w; high = h; marks = marks }) (each_point_alike w h f g same)

pub grids_alike : (w h : ℕ) (f g : ℕ → ℕ → ℕ) → ((x y : ℕ) → is_within w h x y ≡ true → f x y ≡ g x y) → grid w h f ≡ grid w h g
grids_alike w h f g same = ap (λ (numbers : List ℕ). record { wide = w; high = h; numbers = numbers }) (each_point_alike w h f g same)

pub empty-has_none : (w h : ℕ) (f : ℕ → ℕ → Bool) → is_empty (points w h f) ≡ true → (x y : ℕ) → is_within w h x y ≡ true → f x y ≡ false
empty-has_none w h f empty x y within = sym (has-points_within w h f x y within) ∙ has-empty (points w h f) x y empty

none_any : (ks : List ℕ) → list_any (λ m. m) (map (λ k. false) ks) ≡ false
none_any [] = refl
none_any (k ∷ ks) = none_any ks

nothing_empty : (w h : ℕ) → is_empty (points w h (λ x y. false)) ≡ true
unfolding is_empty each_point
nothing_empty w h = rw (none_any (range_with_len 0 (w * h))) refl

pub none-is_empty : (w h : ℕ) (f : ℕ → ℕ → Bool) → ((x y : ℕ) → is_within w h x y ≡ true → f x y ≡ false) → is_empty (points w h f) ≡ true
none-is_empty w h f none = ap is_empty (points_alike w h f (λ x y. false) none) ∙ nothing_empty w h

-- the place of a rectangle's point
in_parts : (r : Rectangle) (x y : ℕ) → is_in r x y ≡ true → ((r.x ≤ x) × (x - r.x < r.w)) × ((r.y ≤ y) × (y - r.y < r.h))
in_parts r x y inside = grind (arith, nat_tests)

pub number_in-cut : (g : Grid) (r : Rectangle) (x y : ℕ) → is_in r x y ≡ true → number_in r (cut g r) x y ≡ number g x y
unfolding number_in
number_in-cut g r x y inside =
    let low = in_parts r x y inside in
    let there : slice_index (each_point r.w r.h (λ i j. number g (r.x + i) (r.y + j))) ((y - r.y) * r.w + (x - r.x)) ≡ number g (r.x + (x - r.x)) (r.y + (y - r.y)) =
    get_or-each_point r.w r.h (λ i j. number g (r.x + i) (r.y + j)) (x - r.x) (y - r.y) 0 low.0.1 low.1.1 in
    let across : r.x + (x - r.x) ≡ x = omega arith in
    let down : r.y + (y - r.y) ≡ y = omega arith in
    there ∙ (ap (λ (i : ℕ). number g i (r.y + (y - r.y))) across ∙ ap (number g x) down)
