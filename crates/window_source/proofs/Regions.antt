-- Regions of a source's window, as the model's sets of points.
use Rattle.std.proofs.Common.{◌≡◌, ℕ, Bool, true, false, ◌&&◌, ◌||◌, refl, sym, ◌∙◌, ap, arith}
use Rattle.std.proofs.lemmas.Bool.{false≢true}
use Rattle.std.proofs.lemmas.Bool.Decides.{nat_tests}
use Rattle.xp_base.specs.Points.{Rectangle, LiesIn, is_in, is_within, whole}
use Rattle.rect_regions.specs.PointSets.{SamePoints, HasNone, united, shared}
use Rattle.delivery_model.specs.Grids.{points, has}
use Rattle.delivery_model.specs.Laws.{PointsHave, PointsAreAlike}
use Rattle.rect_regions.specs.BitRows.{AllWithin}

pub in_within : (w h : ℕ) (r : Rectangle) (x y : ℕ) → LiesIn w h r → is_in r x y ≡ true → is_within w h x y ≡ true
in_within w h r x y lies here = grind (arith, nat_tests, lies.across, lies.down)

pub whole_within : (w h x y : ℕ) → is_in (whole w h) x y ≡ is_within w h x y
whole_within w h x y = grind (arith, nat_tests)

and_given : (a b : Bool) → (b ≡ true → a ≡ true) → (a && b) ≡ b
and_given true b gives = refl
and_given false true gives = gives refl
and_given false false gives = refl

and_true : (a b : Bool) → a ≡ true → (a && b) ≡ b
and_true a b is = rw is refl

and_last : (a b : Bool) → (a && b) ≡ true → b ≡ true
and_last true b is = is
and_last false b is = elim (false≢true is) [ ]

-- the model's set has the points that the region has
pub has_same : PointsHave → (w h : ℕ) (set : ℕ → ℕ → Bool) → AllWithin w h set → (x y : ℕ) → has (points w h set) x y ≡ set x y
has_same have w h set within x y = have w h set x y ∙ and_given (is_within w h x y) (set x y) (within x y)

pub has_inside : PointsHave → (w h : ℕ) (set : ℕ → ℕ → Bool) (x y : ℕ) → is_within w h x y ≡ true → has (points w h set) x y ≡ set x y
has_inside have w h set x y inside = have w h set x y ∙ and_true (is_within w h x y) (set x y) inside

or_within : (w h : ℕ) (was : ℕ → ℕ → Bool) (r : Rectangle) (x y : ℕ) (b : Bool) → was x y ≡ b → AllWithin w h was → LiesIn w h r → (b || is_in r x y) ≡ true → is_within w h x y ≡ true
or_within w h was r x y true is within lies here = within x y is
or_within w h was r x y false is within lies here = in_within w h r x y lies here

-- what is pending with a rectangle of the window
pub united_within : (w h : ℕ) (was region : ℕ → ℕ → Bool) (r : Rectangle) → AllWithin w h was → LiesIn w h r → SamePoints region (united was (is_in r)) → AllWithin w h region
united_within w h was region r within lies same x y here = or_within w h was r x y (was x y) refl within lies (sym (same x y) ∙ here)

pub united_points : PointsHave → PointsAreAlike → (w h : ℕ) (was region : ℕ → ℕ → Bool) (r : Rectangle) → SamePoints region (united was (is_in r))
    → points w h region ≡ points w h (λ x y. has (points w h was) x y || is_in r x y)
united_points have alike w h was region r same = alike w h region (λ x y. has (points w h was) x y || is_in r x y)
    (λ x y inside. same x y ∙ ap (λ b. b || is_in r x y) (sym (has_inside have w h was x y inside)))

-- and with what of a rectangle is in the window
pub clipped_within : (w h : ℕ) (all region : ℕ → ℕ → Bool) → SamePoints region (shared all (is_in (whole w h))) → AllWithin w h region
clipped_within w h all region same x y here = sym (whole_within w h x y) ∙ and_last (all x y) (is_in (whole w h) x y) (sym (same x y) ∙ here)

and_first : (a b : Bool) → b ≡ true → (a && b) ≡ a
and_first true b is = is
and_first false b is = refl

pub clipped_points : PointsHave → PointsAreAlike → (w h : ℕ) (was all region : ℕ → ℕ → Bool) (r : Rectangle) → SamePoints all (united was (is_in r)) → SamePoints region (shared all (is_in (whole w h)))
    → points w h region ≡ points w h (λ x y. has (points w h was) x y || is_in r x y)
clipped_points have alike w h was all region r same clipped = alike w h region (λ x y. has (points w h was) x y || is_in r x y)
    (λ x y inside. clipped x y ∙ (and_first (all x y) (is_in (whole w h) x y) (whole_within w h x y ∙ inside)
    ∙ (same x y ∙ ap (λ b. b || is_in r x y) (sym (has_inside have w h was x y inside)))))

-- the whole of a window that was empty
pub whole_points : PointsAreAlike → (w h : ℕ) (none region : ℕ → ℕ → Bool) → HasNone none → SamePoints region (united none (is_in (whole w h))) → points w h region ≡ points w h (λ x y. true)
whole_points alike w h none region no_point same = alike w h region (λ x y. true)
    (λ x y inside. same x y ∙ (ap (λ b. b || is_in (whole w h) x y) (no_point x y) ∙ (whole_within w h x y ∙ inside)))

-- a set of the model's once more
or_false : (b : Bool) → (b || false) ≡ b
or_false true = refl
or_false false = refl

pub same_points : PointsHave → PointsAreAlike → (w h : ℕ) (set : ℕ → ℕ → Bool) → points w h set ≡ points w h (λ x y. has (points w h set) x y || false)
same_points have alike w h set = alike w h set (λ x y. has (points w h set) x y || false)
    (λ x y inside. sym (or_false (has (points w h set) x y) ∙ has_inside have w h set x y inside))
