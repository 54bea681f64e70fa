-- The least rectangle that holds a set.
use Rattle.std.proofs.Common.{◌≡◌, ℕ, ◌+◌, ◌-◌, ◌<◌, ◌≤◌, min, Bool, true, false, ◌||◌, Option, Some, None, inl, inr, refl, sym, ◌∙◌, arith, MatchOption}
use Rattle.std.proofs.lemmas.Bool.Decides.{nat_tests}
use Rattle.std.proofs.lemmas.Bool.{cases_lt, or_cases}
use Rattle.xp_base.specs.Points.{Rectangle, IsRectangle, is_in}
use Rattle.rect_regions.specs.PointSets.{SamePoints, HasNone, united, IsBounds}
use Rattle.rect_regions.specs.Bounding.{bounding, with_rect}

-- a rectangle is the least that holds its own points
corner_in : (r : Rectangle) (x y : ℕ) → r.x ≤ x → x < r.x + r.w → r.y ≤ y → y < r.y + r.h → is_in r x y ≡ true
corner_in r x y left right top bottom = grind (arith, nat_tests)

pub IsBounds-rect : (r : Rectangle) → IsRectangle r → IsBounds (is_in r) r
IsBounds-rect r sized =
    let wide : 1 ≤ r.w = sized.wide in
    let high : 1 ≤ r.h = sized.high in
    record {
      holds = λ x y there. there;
      left = (r.y, corner_in r r.x r.y (omega arith) (omega arith) (omega arith) (omega arith));
      right = (r.x + r.w - 1, r.y, omega arith, corner_in r (r.x + r.w - 1) r.y (omega arith) (omega arith) (omega arith) (omega arith));
      top = (r.x, corner_in r r.x r.y (omega arith) (omega arith) (omega arith) (omega arith));
      bottom = (r.x, r.y + r.h - 1, omega arith, corner_in r r.x (r.y + r.h - 1) (omega arith) (omega arith) (omega arith) (omega arith));
    }

in_bounding_first : (r s : Rectangle) (x y : ℕ) → is_in r x y ≡ true → is_in (bounding r s) x y ≡ true
in_bounding_first r s x y there = grind (arith, nat_tests)

in_bounding_second : (r s : Rectangle) (x y : ℕ) → is_in s x y ≡ true → is_in (bounding r s) x y ≡ true
in_bounding_second r s x y there = grind (arith, nat_tests)

or_first : (a b : Bool) → a ≡ true → (a || b) ≡ true
or_first true b h = refl
or_first false b h = cc

or_second : (a b : Bool) → b ≡ true → (a || b) ≡ true
or_second true b h = refl
or_second false b h = h

pub IsBounds-joined : (one other both : ℕ → ℕ → Bool) (r s : Rectangle) → SamePoints both (united one other) → IsBounds one r → IsBounds other s → IsBounds both (bounding r s)
IsBounds-joined one other both r s same is it = record {
  holds = λ x y there. elim (or_cases _ _ (sym (same x y) ∙ there)) [
    | inl first ↦ in_bounding_first r s x y (is.holds x y first)
    | inr second ↦ in_bounding_second r s x y (it.holds x y second)
  ];
  left = elim (cases_lt r.x s.x) [
    | inl near ↦ let at : min r.x s.x ≡ r.x = omega arith in (is.left.0, rw at (same r.x is.left.0 ∙ or_first _ _ is.left.1))
    | inr far ↦ let at : min r.x s.x ≡ s.x = omega arith in (it.left.0, rw at (same s.x it.left.0 ∙ or_second _ _ it.left.1))
  ];
  right = elim (cases_lt (s.x + s.w) (r.x + r.w)) [
    | inl near ↦ (is.right.0, is.right.1, omega (arith, is.right.2), same is.right.0 is.right.1 ∙ or_first _ _ is.right.3)
    | inr far ↦ (it.right.0, it.right.1, omega (arith, it.right.2), same it.right.0 it.right.1 ∙ or_second _ _ it.right.3)
  ];
  top = elim (cases_lt r.y s.y) [
    | inl near ↦ let at : min r.y s.y ≡ r.y = omega arith in (is.top.0, rw at (same is.top.0 r.y ∙ or_first _ _ is.top.1))
    | inr far ↦ let at : min r.y s.y ≡ s.y = omega arith in (it.top.0, rw at (same it.top.0 s.y ∙ or_second _ _ it.top.1))
  ];
  bottom = elim (cases_lt (s.y + s.h) (r.y + r.h)) [
    | inl near ↦ (is.bottom.0, is.bottom.1, omega (arith, is.bottom.2), same is.bottom.0 is.bottom.1 ∙ or_first _ _ is.bottom.3)
    | inr far ↦ (it.bottom.0, it.bottom.1, omega (arith, it.bottom.2), same it.bottom.0 it.bottom.1 ∙ or_second _ _ it.bottom.3)
  ];
}

-- the least rectangle of each set with the same points
pub IsBounds-same : (one other : ℕ → ℕ → Bool) (r : Rectangle) → SamePoints one other → IsBounds one r → IsBounds other r
IsBounds-same one other r same is = record {
  holds = λ x y there. is.holds x y (same x y ∙ there);
  left = (is.left.0, sym (same r.x is.left.0) ∙ is.left.1);
  right = (is.right.0, is.right.1, is.right.2, sym (same is.right.0 is.right.1) ∙ is.right.3);
  top = (is.top.0, sym (same is.top.0 r.y) ∙ is.top.1);
  bottom = (is.bottom.0, is.bottom.1, is.bottom.2, sym (same is.bottom.0 is.bottom.1) ∙ is.bottom.3);
}

-- the least rectangle so far, or none where there is no point so far
abbrev pub BoundsSoFar : (ℕ → ℕ → Bool) → Option Rectangle → Type 0
BoundsSoFar set None = HasNone set
BoundsSoFar set (Some r) = IsBounds set r

none_or : (a b : Bool) → a ≡ false → (a || b) ≡ b
none_or true b h = cc
none_or false b h = refl

pub bounds_with : (set more : ℕ → ℕ → Bool) (bounds : Option Rectangle) (r : Rectangle) → IsRectangle r → SamePoints more (united set (is_in r))
    → BoundsSoFar set bounds → IsBounds more (with_rect bounds r)
bounds_with set more None r sized same so_far = IsBounds-same (is_in r) more r (λ x y. sym (same x y ∙ none_or (set x y) (is_in r x y) (so_far x y))) (IsBounds-rect r sized)
bounds_with set more (Some s) r sized same so_far = IsBounds-joined set (is_in r) more s r same so_far (IsBounds-rect r sized)

pub bounds_same : (set more : ℕ → ℕ → Bool) (bounds : Option Rectangle) → SamePoints set more → BoundsSoFar set bounds → BoundsSoFar more bounds
bounds_same set more None same so_far = λ x y. sym (same x y) ∙ so_far x y
bounds_same set more (Some r) same so_far = IsBounds-same set more r same so_far

pub bounds_match : (set : ℕ → ℕ → Bool) (bounds : Option Rectangle) → BoundsSoFar set bounds → MatchOption bounds (HasNone set) (λ r. IsBounds set r)
bounds_match set None so_far = so_far
bounds_match set (Some r) so_far = so_far
