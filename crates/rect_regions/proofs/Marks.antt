-- Marks of points, row by row.
use Rattle.std.proofs.Common.{◌≡◌, ℕ, ◌+◌, ◌*◌, ◌/◌, ◌%◌, ◌<◌, ◌≤◌, Bool, true, false, ◌&&◌, [], ◌∷◌, ◌++◌, map, get_or, inl, inr, sym, ap, ◌∙◌, arith}
use Rattle.std.proofs.lemmas.Bool.Decides.{nat_tests}
use Rattle.std.proofs.lemmas.Bool.{cases_Bool, and_parts, or_cases, ltb-true}
use Rattle.std.proofs.lemmas.List.FromFn.{get_or-map-range_with_len}
use Rattle.std.proofs.lemmas.Nat.{mul-add-lt, div-mul-add, mod-mul-add}
use Rattle.xp_base.specs.Points.{Rectangle, is_in, is_within}
use Rattle.rect_regions.specs.PointSets.{united, without, shared}
use Rattle.rect_regions.specs.BitRows.{BitRows, IsSize, AllWithin, has_mark, marks_of}
use Rattle.std.specs.List.{range_with_len}
use Rattle.std.proofs.lemmas.List.FromFn.{map-range_with_len_more}

pub one_more : {X : Type 0} (f : ℕ → X) (n : ℕ) → map f (range_with_len 0 (n + 1)) ≡ map f (range_with_len 0 n) ++ f n ∷ []
one_more f n = map-range_with_len_more f 0 n n (omega arith)

-- a set has no mark right of its columns
pub no_mark_right : (b : BitRows) (x y : ℕ) → b.wide ≤ x → has_mark b x y ≡ false
unfolding has_mark
no_mark_right b x y right = grind (arith, nat_tests)

pub no_mark_below : (b : BitRows) (x y : ℕ) → b.high ≤ y → has_mark b x y ≡ false
unfolding has_mark
no_mark_below b x y below = grind (arith, nat_tests)

pub mark_within : (b : BitRows) (x y : ℕ) → has_mark b x y ≡ true → is_within b.wide b.high x y ≡ true
unfolding has_mark
mark_within b x y there = (and_parts _ _ there).0

within_parts : (w h x y : ℕ) → is_within w h x y ≡ true → (x < w) × (y < h)
within_parts w h x y inside = let both = and_parts _ _ inside in (ltb-true x w both.0, ltb-true y h both.1)

pub marks_limited : (b : BitRows) (x y : ℕ) → IsSize b.wide b.high → has_mark b x y ≡ true → (x < 4096) × (y < 4096)
marks_limited b x y size there = let at = within_parts b.wide b.high x y (mark_within b x y there) in (omega (arith, size.across), omega (arith, size.down))

-- the place y * w + x of marks made point by point
get_or-marks_of : (w h : ℕ) (test : ℕ → ℕ → Bool) (x y : ℕ) → x < w → y < h → get_or (marks_of w h test) (y * w + x) false ≡ test x y
unfolding marks_of
get_or-marks_of w h test x y across down =
    let low : y * w + x < w * h = mul-add-lt y w x h down across in
    let there : get_or (marks_of w h test) (y * w + x) false ≡ test ((y * w + x) % w) ((y * w + x) / w) =
    get_or-map-range_with_len (λ k. test (k % w) (k / w)) 0 (w * h) (y * w + x) (y * w + x) false low (omega arith) in
    there ∙ (ap (λ (k : ℕ). test k ((y * w + x) / w)) (mod-mul-add y w x across) ∙ ap (test x) (div-mul-add y w x across))

-- made by a test whose points are all within, the marks have the test's points
pub has_mark-made : (w h : ℕ) (test : ℕ → ℕ → Bool) (x y : ℕ) → AllWithin w h test → has_mark (record { wide = w; high = h; marks = marks_of w h test }) x y ≡ test x y
unfolding has_mark
has_mark-made w h test x y all = elim (cases_Bool (is_within w h x y)) [
  | inl inside ↦ let at = within_parts w h x y inside in ap (λ (b : Bool). b && get_or (marks_of w h test) (y * w + x) false) inside ∙ get_or-marks_of w h test x y at.0 at.1
  | inr outside ↦ ap (λ (b : Bool). b && get_or (marks_of w h test) (y * w + x) false) outside ∙ elim (cases_Bool (test x y)) as (λ _. false ≡ test x y) [
    | inl there ↦ let in_it = all x y there in cc
    | inr absent ↦ sym absent
  ]
]

-- where a set's points stand
rect_within : (r : Rectangle) (w h x y : ℕ) → r.x + r.w ≤ w → r.y + r.h ≤ h → is_in r x y ≡ true → is_within w h x y ≡ true
rect_within r w h x y across down there = grind (arith, nat_tests)

more_within : (v g w h x y : ℕ) → v ≤ w → g ≤ h → is_within v g x y ≡ true → is_within w h x y ≡ true
more_within v g w h x y across down there = grind (arith, nat_tests)

marks_within : (b : BitRows) (w h x y : ℕ) → b.wide ≤ w → b.high ≤ h → has_mark b x y ≡ true → is_within w h x y ≡ true
marks_within b w h x y across down there = more_within b.wide b.high w h x y across down (mark_within b x y there)

pub union_rect_within : (b : BitRows) (r : Rectangle) (w h : ℕ) → b.wide ≤ w → b.high ≤ h → r.x + r.w ≤ w → r.y + r.h ≤ h → AllWithin w h (united (has_mark b) (is_in r))
union_rect_within b r w h across down wide high x y there = elim (or_cases _ _ there) [
  | inl one ↦ marks_within b w h x y across down one
  | inr other ↦ rect_within r w h x y wide high other
]

pub union_within : (b o : BitRows) (w h : ℕ) → b.wide ≤ w → b.high ≤ h → o.wide ≤ w → o.high ≤ h → AllWithin w h (united (has_mark b) (has_mark o))
union_within b o w h across down wide high x y there = elim (or_cases _ _ there) [
  | inl one ↦ marks_within b w h x y across down one
  | inr other ↦ marks_within o w h x y wide high other
]

pub without_within : (b : BitRows) (r : Rectangle) → AllWithin b.wide b.high (without (has_mark b) (is_in r))
without_within b r x y there = mark_within b x y (and_parts _ _ there).0

pub shared_within : (b : BitRows) (r : Rectangle) → AllWithin b.wide b.high (shared (has_mark b) (is_in r))
shared_within b r x y there = mark_within b x y (and_parts _ _ there).0
