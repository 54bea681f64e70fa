-- A set has one row-band list.
use Rattle.std.proofs.Common.{◌≡◌, ℕ, ◌+◌, ◌-◌, ◌<◌, ◌≤◌, Bool, true, false, ◌||◌, List, [], ◌∷◌, inl, inr, refl, sym, ap, subst, ◌∙◌, arith}
use Rattle.std.proofs.lemmas.Bool.Decides.{nat_tests}
use Rattle.std.proofs.lemmas.Bool.{cases_lt, cases_Bool}
use Rattle.xp_base.specs.Points.{Rectangle, IsRectangle, is_in}
use Rattle.rect_regions.specs.PointSets.{has, SamePoints}
use Rattle.rect_regions.specs.Bands.{Each, GoesBefore, IsOrdered, BeginsAnew, IsRowBands}
use Rattle.rect_regions.specs.Sweeping.{IsSorted}
use Rattle.rect_regions.proofs.Rects.{Each-weaker, Each-both}

-- a point in a rectangle, by numbers
pub record Inside (r : Rectangle) (x y : ℕ) : Type 0 where
  pub left : r.x ≤ x
  pub right : x < r.x + r.w
  pub top : r.y ≤ y
  pub bottom : y < r.y + r.h

inside_left : (r : Rectangle) (x y : ℕ) → is_in r x y ≡ true → r.x ≤ x
inside_left r x y there = grind (arith, nat_tests)

inside_right : (r : Rectangle) (x y : ℕ) → is_in r x y ≡ true → x < r.x + r.w
inside_right r x y there = grind (arith, nat_tests)

inside_top : (r : Rectangle) (x y : ℕ) → is_in r x y ≡ true → r.y ≤ y
inside_top r x y there = grind (arith, nat_tests)

inside_bottom : (r : Rectangle) (x y : ℕ) → is_in r x y ≡ true → y < r.y + r.h
inside_bottom r x y there = grind (arith, nat_tests)

pub inside : (r : Rectangle) (x y : ℕ) → is_in r x y ≡ true → Inside r x y
inside r x y there = record { left = inside_left r x y there; right = inside_right r x y there; top = inside_top r x y there; bottom = inside_bottom r x y there }

pub is_inside : (r : Rectangle) (x y : ℕ) → r.x ≤ x → x < r.x + r.w → r.y ≤ y → y < r.y + r.h → is_in r x y ≡ true
is_inside r x y left right top bottom = grind (arith, nat_tests)

-- one of the rectangles that have a point
pub record HasAt (P : Rectangle → Type 0) (x y : ℕ) : Type 0 where
  pub it : Rectangle
  pub is : P it
  pub there : is_in it x y ≡ true

pub one_of : (P : Rectangle → Type 0) (rects : List Rectangle) (x y : ℕ) → Each P rects → has rects x y ≡ true → HasAt P x y
one_of P [] x y each there = cc
one_of P (r ∷ rects) x y each there = elim (cases_Bool (is_in r x y)) [
  | inl here ↦ record { it = r; is = each.0; there = here }
  | inr absent ↦ one_of P rects x y each.1 (sym (other (is_in r x y) (has rects x y) absent) ∙ there)
]
  where
    other : (a b : Bool) → a ≡ false → (a || b) ≡ b
    other true b h = cc
    other false b h = refl

-- the rows of a rectangle are one row of the set
abbrev pub IsOneRow : (ℕ → ℕ → Bool) → Rectangle → Type 0
IsOneRow set r = (y : ℕ) → r.y ≤ y → y < r.y + r.h → (x : ℕ) → set x y ≡ set x r.y

-- what stands in two lists that go on from the same place
pub record IsPart (set : ℕ → ℕ → Bool) (rects : List Rectangle) : Type 0 where
  pub sized : Each IsRectangle rects
  pub ordered : IsOrdered rects
  pub joined : Each (BeginsAnew set) rects
  pub rows : Each (IsOneRow set) rects

-- where the first of a list stands
record First (r s : Rectangle) : Type 0 where
  row : r.y ≤ s.y
  column : s.y ≡ r.y → r.x ≤ s.x

first_of : (r s : Rectangle) → IsRectangle r → GoesBefore r s → First r s
first_of r s sized (inl beside) = record { row = omega (arith, beside.0); column = λ at. omega (arith, beside.2) }
first_of r s sized (inr above) = record { row = omega arith; column = λ at. absurd (omega (arith, sized.high)) }

all_first : (r : Rectangle) (rects : List Rectangle) → IsRectangle r → Each (GoesBefore r) rects → Each (First r) (r ∷ rects)
all_first r rects sized before = (record { row = omega arith; column = λ at. omega arith }, Each-weaker (GoesBefore r) (First r) (λ s. first_of r s sized) rects before)

corner : (r : Rectangle) (rest : Bool) → IsRectangle r → (is_in r r.x r.y || rest) ≡ true
corner r rest sized = rw (is_inside r r.x r.y (omega arith) (omega (arith, sized.wide)) (omega arith) (omega (arith, sized.high))) refl

-- the first corner of one list is not before that of the other
record NotBefore (r s : Rectangle) : Type 0 where
  row : s.y ≤ r.y
  column : s.y ≡ r.y → s.x ≤ r.x

not_before : (r s : Rectangle) (rects others : List Rectangle) → IsRectangle r → IsRectangle s → Each (GoesBefore s) others → SamePoints (has (r ∷ rects)) (has (s ∷ others)) → NotBefore r s
not_before r s rects others sized size before same =
    let at = one_of (First s) (s ∷ others) r.x r.y (all_first s others size before) (sym (same r.x r.y) ∙ corner r (has rects r.x r.y) sized) in
    let in_it = inside at.it r.x r.y at.there in
    let row : s.y ≤ at.it.y = at.is.row in
    let top : at.it.y ≤ r.y = in_it.top in
    record {
      row = omega arith;
      column = λ level. let column = at.is.column (omega arith) in let left : at.it.x ≤ r.x = in_it.left in omega arith;
    }

-- what holds of a rectangle that has a point beside or below the first
beside_gap : (r s : Rectangle) (x y : ℕ) → GoesBefore r s → Inside s x y → y < r.y + r.h → r.x + r.w < x + 1
beside_gap r s x y (inl beside) at high = omega (arith, beside.2, at.left)
beside_gap r s x y (inr above) at high = absurd (omega (arith, at.top))

-- the first run of one is not shorter
not_shorter : (r s : Rectangle) (rects others : List Rectangle) → IsRectangle r → IsRectangle s → r.x ≡ s.x → r.y ≡ s.y → Each (GoesBefore r) rects
    → SamePoints (has (r ∷ rects)) (has (s ∷ others)) → s.w ≤ r.w
not_shorter r s rects others sized size column row before same = elim (cases_lt r.w s.w) [
  | inl shorter ↦
      let x = r.x + r.w in
      let there : is_in s x r.y ≡ true = is_inside s x r.y (omega arith) (omega arith) (omega arith) (omega (arith, size.high)) in
      let has_it : has (s ∷ others) x r.y ≡ true = rw there refl in
      let out : is_in r x r.y ≡ false = past_end r r.y in
      let rest : has rects x r.y ≡ true = sym (ap (λ (b : Bool). b || has rects x r.y) out) ∙ same x r.y ∙ has_it in
      let at = one_of (GoesBefore r) rects x r.y before rest in
      let gap : r.x + r.w < x = gap_before r at.it x at.is (inside at.it x r.y at.there) sized in
      absurd (omega arith)
  | inr longer ↦ longer
]
  where
    past_end : (r : Rectangle) (y : ℕ) → is_in r (r.x + r.w) y ≡ false
    past_end r y = grind (arith, nat_tests)

    gap_before : (r t : Rectangle) (x : ℕ) → GoesBefore r t → Inside t x r.y → IsRectangle r → r.x + r.w < x
    gap_before r t x (inl beside) at sized = omega (arith, beside.2, at.left)
    gap_before r t x (inr above) at sized = absurd (omega (arith, at.top, sized.high))

-- a rectangle right below the first begins there
begins_there : (r t : Rectangle) (x : ℕ) → GoesBefore r t → Inside t x (r.y + r.h) → t.y ≡ r.y + r.h
begins_there r t x (inl beside) at = absurd (omega (arith, beside.0, beside.1, at.bottom))
begins_there r t x (inr above) at = omega (arith, at.top)

record Below (set : ℕ → ℕ → Bool) (r t : Rectangle) : Type 0 where
  before : GoesBefore r t
  anew : BeginsAnew set t

-- the first band of one is not shorter
not_lower : (set : ℕ → ℕ → Bool) (r s : Rectangle) (rects others : List Rectangle) → IsRectangle r → IsRectangle s → r.x ≡ s.x → r.y ≡ s.y → Each (GoesBefore r) rects
    → Each (BeginsAnew set) rects → IsOneRow set r → IsOneRow set s → SamePoints (has (r ∷ rects)) (has (s ∷ others)) → s.h ≤ r.h
not_lower set r s rects others sized size column row before joined own its same = elim (cases_lt r.h s.h) [
  | inl shorter ↦
      let y = r.y + r.h in
      let there : is_in s s.x y ≡ true = is_inside s s.x y (omega arith) (omega (arith, size.wide)) (omega arith) (omega arith) in
      let has_it : has (s ∷ others) s.x y ≡ true = rw there refl in
      let out : is_in r s.x y ≡ false = past_bottom r s.x in
      let rest : has rects s.x y ≡ true = sym (ap (λ (b : Bool). b || has rects s.x y) out) ∙ same s.x y ∙ has_it in
      let both = Each-both (GoesBefore r) (BeginsAnew set) (Below set r) (λ t p q. record { before = p; anew = q }) rects before joined in
      let at = one_of (Below set r) rects s.x y both rest in
      let top : at.it.y ≡ y = begins_there r at.it s.x at.is.before (inside at.it s.x y at.there) in
      let high : 1 ≤ r.h = sized.high in
      let last : r.y + r.h - 1 + 1 ≡ at.it.y = omega arith in
      absurd (at.is.anew (r.y + r.h - 1) last (λ x.
      own (r.y + r.h - 1) (omega arith) (omega arith) x
      ∙ ap (set x) row
      ∙ sym (its y (omega arith) (omega arith) x)
      ∙ ap (set x) (sym top)))
  | inr longer ↦ longer
]
  where
    past_bottom : (r : Rectangle) (x : ℕ) → is_in r x (r.y + r.h) ≡ false
    past_bottom r x = grind (arith, nat_tests)

-- what stands behind the first has none of its points
apart_from : (r t : Rectangle) (x y : ℕ) → GoesBefore r t → is_in r x y ≡ true → is_in t x y ≡ false
apart_from r t x y (inl beside) there = grind (arith, nat_tests, beside.0, beside.1, beside.2)
apart_from r t x y (inr above) there = grind (arith, nat_tests)

pub none_in_first : (r : Rectangle) (rects : List Rectangle) (x y : ℕ) → Each (GoesBefore r) rects → is_in r x y ≡ true → has rects x y ≡ false
none_in_first r [] x y before there = refl
none_in_first r (t ∷ rects) x y before there = rw (apart_from r t x y before.0 there) (none_in_first r rects x y before.1 there)

rest_same : (r : Rectangle) (rects others : List Rectangle) (x y : ℕ) → Each (GoesBefore r) rects → Each (GoesBefore r) others
    → has (r ∷ rects) x y ≡ has (r ∷ others) x y → has rects x y ≡ has others x y
rest_same r rects others x y before behind same = elim (cases_Bool (is_in r x y)) [
  | inl there ↦ none_in_first r rects x y before there ∙ sym (none_in_first r others x y behind there)
  | inr absent ↦ sym (other (is_in r x y) (has rects x y) absent) ∙ same ∙ other (is_in r x y) (has others x y) absent
]
  where
    other : (a b : Bool) → a ≡ false → (a || b) ≡ b
    other true b h = cc
    other false b h = refl

same_rectangle : (r s : Rectangle) → r.x ≡ s.x → r.y ≡ s.y → r.w ≡ s.w → r.h ≡ s.h → r ≡ s
same_rectangle r s a b c d =
    let made : ℕ → ℕ → ℕ → ℕ → Rectangle = λ x y w h. record { x = x; y = y; w = w; h = h } in
    ap (λ (n : ℕ). made n r.y r.w r.h) a ∙ ap (λ (n : ℕ). made s.x n r.w r.h) b ∙ ap (λ (n : ℕ). made s.x s.y n r.h) c ∙ ap (λ (n : ℕ). made s.x s.y s.w n) d

first_same : (set : ℕ → ℕ → Bool) (r s : Rectangle) (rects others : List Rectangle) → IsPart set (r ∷ rects) → IsPart set (s ∷ others)
    → SamePoints (has (r ∷ rects)) (has (s ∷ others)) → r ≡ s
first_same set r s rects others one other same =
    let back : SamePoints (has (s ∷ others)) (has (r ∷ rects)) = λ x y. sym (same x y) in
    let left = not_before r s rects others one.sized.0 other.sized.0 other.ordered.0 same in
    let right = not_before s r others rects other.sized.0 one.sized.0 one.ordered.0 back in
    let row : r.y ≡ s.y = omega (arith, left.row, right.row) in
    let near = left.column (sym row) in
    let far = right.column row in
    let column : r.x ≡ s.x = omega (arith, near, far) in
    let short = not_shorter r s rects others one.sized.0 other.sized.0 column row one.ordered.0 same in
    let long = not_shorter s r others rects other.sized.0 one.sized.0 (sym column) (sym row) other.ordered.0 back in
    let wide : r.w ≡ s.w = omega (arith, short, long) in
    let flat = not_lower set r s rects others one.sized.0 other.sized.0 column row one.ordered.0 one.joined.1 one.rows.0 other.rows.0 same in
    let tall = not_lower set s r others rects other.sized.0 one.sized.0 (sym column) (sym row) other.ordered.0 other.joined.1 other.rows.0 one.rows.0 back in
    let high : r.h ≡ s.h = omega (arith, flat, tall) in
    same_rectangle r s column row wide high

rest_part : (set : ℕ → ℕ → Bool) (r : Rectangle) (rects : List Rectangle) → IsPart set (r ∷ rects) → IsPart set rects
rest_part set r rects is = record { sized = is.sized.1; ordered = is.ordered.1; joined = is.joined.1; rows = is.rows.1 }

some_not_none : (r : Rectangle) (rects : List Rectangle) → IsRectangle r → SamePoints (has []) (has (r ∷ rects)) → ⊥
some_not_none r rects sized same = let is = same r.x r.y in let there = corner r (has rects r.x r.y) sized in cc

pub same_parts : (set : ℕ → ℕ → Bool) (one other : List Rectangle) → IsPart set one → IsPart set other → SamePoints (has one) (has other) → one ≡ other
same_parts set [] [] is it same = refl
same_parts set [] (s ∷ others) is it same = absurd (some_not_none s others it.sized.0 same)
same_parts set (r ∷ rects) [] is it same = absurd (some_not_none r rects is.sized.0 (λ x y. sym (same x y)))
same_parts set (r ∷ rects) (s ∷ others) is it same =
    let first : r ≡ s = first_same set r s rects others is it same in
    let behind : Each (GoesBefore r) others = subst (λ (t : Rectangle). Each (GoesBefore t) others) (sym first) it.ordered.0 in
    let alike : (x y : ℕ) → has (r ∷ rects) x y ≡ has (r ∷ others) x y = λ x y. same x y ∙ ap (λ (t : Rectangle). has (t ∷ others) x y) (sym first) in
    let rest = same_parts set rects others (rest_part set r rects is) (rest_part set s others it) (λ x y. rest_same r rects others x y is.ordered.0 behind (alike x y)) in
    ap (λ (t : Rectangle). t ∷ rects) first ∙ ap (λ (l : List Rectangle). s ∷ l) rest

-- all rows of a rectangle of a sorted list are the same row of it
row_before : (r t : Rectangle) (x y : ℕ) → GoesBefore r t → IsRectangle r → r.y ≤ y → y < r.y + r.h → is_in t x y ≡ is_in t x r.y
row_before r t x y (inl beside) sized from until = same_row t x y r.y (omega (arith, beside.0, beside.1)) (omega (arith, beside.0, beside.1)) (omega (arith, beside.0, beside.1)) (omega (arith, beside.0, beside.1, sized.high))
  where
    same_row : (t : Rectangle) (x y q : ℕ) → t.y ≤ y → y < t.y + t.h → t.y ≤ q → q < t.y + t.h → is_in t x y ≡ is_in t x q
    same_row t x y q a b c d = grind (arith, nat_tests)
row_before r t x y (inr above) sized from until = grind (arith, nat_tests, sized.high)

rows_behind : (r : Rectangle) (rects : List Rectangle) (x y : ℕ) → Each (GoesBefore r) rects → IsRectangle r → r.y ≤ y → y < r.y + r.h → has rects x y ≡ has rects x r.y
rows_behind r [] x y before sized from until = refl
rows_behind r (t ∷ rects) x y before sized from until =
    ap (λ (b : Bool). b || has rects x y) (row_before r t x y before.0 sized from until) ∙ ap (λ (b : Bool). is_in t x r.y || b) (rows_behind r rects x y before.1 sized from until)

own_row : (r : Rectangle) (x y : ℕ) → IsRectangle r → r.y ≤ y → y < r.y + r.h → is_in r x y ≡ is_in r x r.y
own_row r x y sized from until = grind (arith, nat_tests, sized.high)

-- a rectangle that stands before another has the same points in each of that one's rows
row_after : (r t : Rectangle) (x y : ℕ) → GoesBefore r t → IsRectangle r → IsRectangle t → t.y ≤ y → y < t.y + t.h → is_in r x y ≡ is_in r x t.y
row_after r t x y (inl beside) sized size from until = same_row r x y t.y (omega (arith, beside.0, beside.1)) (omega (arith, beside.0, beside.1)) (omega (arith, beside.0, beside.1)) (omega (arith, beside.0, beside.1, sized.high))
  where
    same_row : (t : Rectangle) (x y q : ℕ) → t.y ≤ y → y < t.y + t.h → t.y ≤ q → q < t.y + t.h → is_in t x y ≡ is_in t x q
    same_row t x y q a b c d = grind (arith, nat_tests)
row_after r t x y (inr above) sized size from until = grind (arith, nat_tests, size.high)

one_row_more : (r : Rectangle) (rects : List Rectangle) (t : Rectangle) → IsRectangle r → IsRectangle t → GoesBefore r t → IsOneRow (has rects) t → IsOneRow (has (r ∷ rects)) t
one_row_more r rects t sized size before rows y from until x =
    ap (λ (b : Bool). b || has rects x y) (row_after r t x y before sized size from until) ∙ ap (λ (b : Bool). is_in r x t.y || b) (rows y from until x)

record Sized (r t : Rectangle) : Type 0 where
  size : IsRectangle t
  before : GoesBefore r t

pub one_rows : (rects : List Rectangle) → IsSorted rects → Each (IsOneRow (has rects)) rects
one_rows [] sorted = tt
one_rows (r ∷ rects) sorted =
    let own : IsOneRow (has (r ∷ rects)) r =
    λ y from until x. ap (λ (b : Bool). b || has rects x y) (own_row r x y sorted.sized.0 from until) ∙ ap (λ (b : Bool). is_in r x r.y || b) (rows_behind r rects x y sorted.ordered.0 sorted.sized.0 from until) in
    let both = Each-both IsRectangle (GoesBefore r) (Sized r) (λ t p q. record { size = p; before = q }) rects sorted.sized.1 sorted.ordered.0 in
    let rest = one_rows rects (record { sized = sorted.sized.1; ordered = sorted.ordered.1 }) in
    (own, Each-both (Sized r) (IsOneRow (has rects)) (IsOneRow (has (r ∷ rects))) (λ t p. one_row_more r rects t sorted.sized.0 p.size p.before) rects both rest)

one_row_of : (one other : ℕ → ℕ → Bool) → SamePoints one other → (r : Rectangle) → IsOneRow one r → IsOneRow other r
one_row_of one other same r rows y from until x = sym (same x y) ∙ rows y from until x ∙ same x r.y

part_of : (set : ℕ → ℕ → Bool) (rects : List Rectangle) → IsRowBands set rects → IsPart set rects
part_of set rects is = record {
  sized = is.sized;
  ordered = is.ordered;
  joined = is.joined;
  rows = Each-weaker (IsOneRow (has rects)) (IsOneRow set) (one_row_of (has rects) set is.points) rects (one_rows rects (record { sized = is.sized; ordered = is.ordered }));
}

-- two row-band lists of one set are equal
pub one_list : (set : ℕ → ℕ → Bool) (one other : List Rectangle) → IsRowBands set one → IsRowBands set other → one ≡ other
one_list set one other is it = same_parts set one other (part_of set one is) (part_of set other it) (λ x y. is.points x y ∙ sym (it.points x y))
