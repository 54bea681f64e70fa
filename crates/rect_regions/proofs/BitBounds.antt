-- The least rectangle of rows of bits, mark by mark.
use Rattle.std.proofs.Common.{◌≡◌, ℕ, ◌+◌, ◌*◌, ◌/◌, ◌%◌, ◌≤◌, true, false, Option, MatchOption, sym, subst, arith}
use Rattle.xp_base.specs.Points.{Rectangle, IsRectangle}
use Rattle.rect_regions.specs.PointSets.{HasNone, IsBounds}
use Rattle.rect_regions.specs.BitRows.{BitRows, IsSize, has_mark}
use Rattle.rect_regions.specs.Bounding.{with_point}
use Rattle.rect_regions.proofs.Marks.{marks_limited}
use Rattle.rect_regions.proofs.BitSteps.{marks_below, point_at, marks_on, marks_off, marks_all}
use Rattle.rect_regions.proofs.Boundings.{BoundsSoFar, bounds_with, bounds_same, bounds_match}

point_sized : (b : BitRows) (k : ℕ) → IsSize b.wide b.high → has_mark b (k % b.wide) (k / b.wide) ≡ true → IsRectangle (point_at b.wide k)
point_sized b k size on =
    let at = marks_limited b (k % b.wide) (k / b.wide) size on in
    record { wide = omega arith; high = omega arith; across = omega (arith, at.0); down = omega (arith, at.1) }

on_own : (b : BitRows) (k : ℕ) (bounds : Option Rectangle) → IsSize b.wide b.high → has_mark b (k % b.wide) (k / b.wide) ≡ true → BoundsSoFar (marks_below b k) bounds
    → IsBounds (marks_below b (k + 1)) (with_point bounds (k % b.wide) (k / b.wide))
on_own b k bounds size on so_far =
    bounds_with (marks_below b k) (marks_below b (k + 1)) bounds (point_at b.wide k) (point_sized b k size on) (λ x y. marks_on b k x y size.some on) so_far

pub bounds_on : (b : BitRows) (wide k : ℕ) (bounds : Option Rectangle) → wide ≡ b.wide → IsSize b.wide b.high → has_mark b (k % wide) (k / wide) ≡ true → BoundsSoFar (marks_below b k) bounds
    → IsBounds (marks_below b (k + 1)) (with_point bounds (k % wide) (k / wide))
bounds_on b wide k bounds same size on so_far =
    let there : has_mark b (k % b.wide) (k / b.wide) ≡ true = subst (λ (n : ℕ). has_mark b (k % n) (k / n) ≡ true) same on in
    subst (λ (n : ℕ). IsBounds (marks_below b (k + 1)) (with_point bounds (k % n) (k / n))) (sym same) (on_own b k bounds size there so_far)

pub bounds_off : (b : BitRows) (wide k : ℕ) (bounds : Option Rectangle) → wide ≡ b.wide → has_mark b (k % wide) (k / wide) ≡ false → BoundsSoFar (marks_below b k) bounds → BoundsSoFar (marks_below b (k + 1)) bounds
bounds_off b wide k bounds same off so_far =
    let absent : has_mark b (k % b.wide) (k / b.wide) ≡ false = subst (λ (n : ℕ). has_mark b (k % n) (k / n) ≡ false) same off in
    bounds_same (marks_below b k) (marks_below b (k + 1)) bounds (λ x y. marks_off b k x y absent) so_far

pub bounds_end : (b : BitRows) (wide high k : ℕ) (bounds : Option Rectangle) → wide ≡ b.wide → high ≡ b.high → wide * high ≤ k → BoundsSoFar (marks_below b k) bounds
    → MatchOption bounds (HasNone (has_mark b)) (λ r. IsBounds (has_mark b) r)
bounds_end b wide high k bounds same alike past so_far =
    let all : b.wide * b.high ≤ k = subst (λ (n : ℕ). n * b.high ≤ k) same (subst (λ (n : ℕ). wide * n ≤ k) alike past) in
    bounds_match (has_mark b) bounds (bounds_same (marks_below b k) (has_mark b) bounds (λ x y. marks_all b k x y all) so_far)
