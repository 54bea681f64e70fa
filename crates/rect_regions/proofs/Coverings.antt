-- Rectangles that have all points of another.
use Rattle.std.proofs.Common.{◌≡◌, ℕ, ◌+◌, ◌<◌, ◌≤◌, Bool, true, false, ◌||◌, List, [], ◌∷◌, ◌++◌, length, take, drop, get_or, inl, inr, refl, sym, ap, subst, ◌∙◌, arith}
use Rattle.std.proofs.lemmas.Bool.Decides.{nat_tests}
use Rattle.std.proofs.lemmas.Bool.{cases_lt, cases_Bool}
use Rattle.std.proofs.lemmas.List.{take-append-drop, drop_more}
use Rattle.xp_base.specs.Points.{Rectangle, IsRectangle, is_in}
use Rattle.rect_regions.specs.PointSets.{has, SamePoints, HasAll, united}
use Rattle.rect_regions.specs.Bands.{Each, GoesBefore}
use Rattle.rect_regions.specs.Sweeping.{IsSorted, Covers, IsCoveredTo}
use Rattle.rect_regions.proofs.Rects.{has-append, Each-weaker, IsOrdered-back}
use Rattle.rect_regions.proofs.RunMerges.{none_or}
use Rattle.rect_regions.proofs.Uniqueness.{Inside, inside, is_inside}
use Rattle.rect_regions.proofs.Searches.{IsPast, IsAhead, all_past, has_none, has_place}

-- a rectangle of the list
or_true : (b : Bool) → (b || true) ≡ true
or_true true = refl
or_true false = refl

parts_at : (rects : List Rectangle) (s : Rectangle) (k : ℕ) → k < length rects → s ≡ get_or rects k s → rects ≡ take k rects ++ s ∷ drop (k + 1) rects
parts_at rects s k low is =
    sym (take-append-drop k rects)
    ∙ ap (λ (l : List Rectangle). take k rects ++ l) (drop_more rects k s low ∙ ap (λ (t : Rectangle). t ∷ drop (k + 1) rects) (sym is))

member_has : (front back : List Rectangle) (s : Rectangle) (x y : ℕ) → is_in s x y ≡ true → has (front ++ s ∷ back) x y ≡ true
member_has front back s x y there = has-append front (s ∷ back) x y ∙ ap (λ (b : Bool). has front x y || (b || has back x y)) there ∙ or_true (has front x y)

-- what is before a point is before those right of it
past_on : (r : Rectangle) (x p y : ℕ) → x ≤ p → IsPast x y r → IsPast p y r
past_on r x p y right past = grind (arith, nat_tests)

-- right of a rectangle's last column there is a gap
gap_out : (s t : Rectangle) (y : ℕ) → GoesBefore s t → y < s.y + s.h → is_in t (s.x + s.w) y ≡ false
gap_out s t y (inl beside) high = grind (arith, nat_tests, beside.0, beside.1, beside.2)
gap_out s t y (inr above) high = grind (arith, nat_tests)

gaps_out : (s : Rectangle) (rects : List Rectangle) (y : ℕ) → Each (GoesBefore s) rects → y < s.y + s.h → has rects (s.x + s.w) y ≡ false
gaps_out s [] y before high = refl
gaps_out s (t ∷ rects) y before high = rw (gap_out s t y before.0 high) (gaps_out s rects y before.1 high)

end_out : (s : Rectangle) (y : ℕ) → is_in s (s.x + s.w) y ≡ false
end_out s y = grind (arith, nat_tests)

missing_behind : (front back : List Rectangle) (s : Rectangle) (x y : ℕ) → IsSorted (front ++ s ∷ back) → Each (IsPast x y) front → Inside s x y → has (front ++ s ∷ back) (s.x + s.w) y ≡ false
missing_behind front back s x y sorted before at =
    let right : x ≤ s.x + s.w = omega (arith, at.right) in
    has-append front (s ∷ back) (s.x + s.w) y
    ∙ none_or _ _ (all_past front (s.x + s.w) y (Each-weaker (IsPast x y) (IsPast (s.x + s.w) y) (λ r. past_on r x (s.x + s.w) y right) front before))
    ∙ none_or _ _ (end_out s y)
    ∙ gaps_out s back y (IsOrdered-back front (s ∷ back) sorted.ordered).0 at.bottom

-- a point is missing in the row, or its columns are there as far as the rectangle goes down
pub covered_none : (rects : List Rectangle) (r : Rectangle) (y p : ℕ) → r.x ≤ p → p < r.x + r.w → has rects p y ≡ false → IsCoveredTo rects r y y
covered_none rects r y p left right off = record {
  order = omega arith;
  there = λ a b from until start end. absurd (omega arith);
  missing = λ e. (p, left, right, off);
}

pub covered_past : (rects : List Rectangle) (r : Rectangle) (k y : ℕ) → IsRectangle r → length rects ≤ k → Each (IsPast r.x y) (take k rects) → IsCoveredTo rects r y y
covered_past rects r k y sized all before = covered_none rects r y r.x (omega arith) (omega (arith, sized.wide)) (has_none rects k r.x y all before)

pub covered_out : (rects : List Rectangle) (r s : Rectangle) (k y : ℕ) → IsRectangle r → IsSorted rects → k < length rects → s ≡ get_or rects k s
    → Each (IsPast r.x y) (take k rects) → Each (IsAhead r.x y) (drop k rects) → is_in s r.x y ≡ false → IsCoveredTo rects r y y
covered_out rects r s k y sized sorted low is before behind out =
    covered_none rects r y r.x (omega arith) (omega (arith, sized.wide)) (has_place rects s k r.x y sorted low is before behind ∙ out)

pub covered_short : (rects : List Rectangle) (r s : Rectangle) (k y : ℕ) → IsSorted rects → k < length rects → s ≡ get_or rects k s
    → Each (IsPast r.x y) (take k rects) → is_in s r.x y ≡ true → s.x + s.w < r.x + r.w → IsCoveredTo rects r y y
covered_short rects r s k y sorted low is before there short =
    let at = inside s r.x y there in
    let parts = parts_at rects s k low is in
    let named : IsSorted (take k rects ++ s ∷ drop (k + 1) rects) = subst (λ (l : List Rectangle). IsSorted l) parts sorted in
    covered_none rects r y (s.x + s.w) (omega (arith, at.right)) short
    (ap (λ (l : List Rectangle). has l (s.x + s.w) y) parts ∙ missing_behind (take k rects) (drop (k + 1) rects) s r.x y named before at)

pub covered_all : (rects : List Rectangle) (r s : Rectangle) (k y n : ℕ) → k < length rects → s ≡ get_or rects k s → is_in s r.x y ≡ true → r.x + r.w ≤ s.x + s.w → n ≡ s.y + s.h → IsCoveredTo rects r y n
covered_all rects r s k y n low is there long end =
    let at = inside s r.x y there in
    let parts = parts_at rects s k low is in
    record {
      order = omega (arith, at.bottom);
      there = λ a b from until start before.
          ap (λ (l : List Rectangle). has l a b) parts
          ∙ member_has (take k rects) (drop (k + 1) rects) s a b (is_inside s a b (omega (arith, at.left)) (omega arith) (omega (arith, at.top)) (omega arith));
      missing = λ e. absurd (omega (arith, at.bottom));
    }

-- the rows so far
abbrev pub CoversTo : (ℕ → ℕ → Bool) → Rectangle → ℕ → Type 0
CoversTo set r row = (x y : ℕ) → is_in r x y ≡ true → y < row → set x y ≡ true

pub covers_begin : (set : ℕ → ℕ → Bool) (r : Rectangle) → CoversTo set r r.y
covers_begin set r x y there high = let at = inside r x y there in absurd (omega (arith, at.top))

pub covers_on : (rects : List Rectangle) (r : Rectangle) (y next : ℕ) → IsCoveredTo rects r y next → CoversTo (has rects) r y → CoversTo (has rects) r next
covers_on rects r y next is so_far p q there high = elim (cases_lt q y) [
  | inl above ↦ so_far p q there above
  | inr from ↦ let at = inside r p q there in is.there p q at.left at.right from high
]

pub covers_end : (set : ℕ → ℕ → Bool) (r : Rectangle) (y : ℕ) → r.y + r.h ≤ y → CoversTo set r y → Covers set r
covers_end set r y past so_far p q there = let at = inside r p q there in so_far p q there (omega (arith, at.bottom))

pub covers_not : (rects : List Rectangle) (r : Rectangle) (y next : ℕ) → r.y ≤ y → y < r.y + r.h → next ≡ y → IsCoveredTo rects r y next → Covers (has rects) r → ⊥
covers_not rects r y next from until same is all =
    let gap = is.missing same in
    let on = all gap.0 y (is_inside r gap.0 y gap.1 gap.2 from until) in
    let off = gap.3 in
    cc

-- a union with what is covered changes nothing
pub united_covered : (set : ℕ → ℕ → Bool) (r : Rectangle) → Covers set r → SamePoints set (united set (is_in r))
united_covered set r all x y = elim (cases_Bool (is_in r x y)) [
  | inl there ↦ all x y there ∙ sym (ap (λ (b : Bool). set x y || b) there ∙ or_true (set x y))
  | inr absent ↦ sym (ap (λ (b : Bool). set x y || b) absent ∙ or_no (set x y))
]
  where
    or_no : (b : Bool) → (b || false) ≡ b
    or_no true = refl
    or_no false = refl

covered_has : (set : ℕ → ℕ → Bool) (others : List Rectangle) (x y : ℕ) → Each (Covers set) others → has others x y ≡ true → set x y ≡ true
covered_has set [] x y all there = cc
covered_has set (r ∷ others) x y all there = elim (cases_Bool (is_in r x y)) [
  | inl here ↦ all.0 x y here
  | inr absent ↦ covered_has set others x y all.1 (sym (none_or (is_in r x y) (has others x y) absent) ∙ there)
]

pub united_covered_all : (set : ℕ → ℕ → Bool) (others : List Rectangle) → Each (Covers set) others → SamePoints set (united set (has others))
united_covered_all set others all x y = elim (cases_Bool (has others x y)) [
  | inl there ↦ covered_has set others x y all there ∙ sym (ap (λ (b : Bool). set x y || b) there ∙ or_true (set x y))
  | inr absent ↦ sym (ap (λ (b : Bool). set x y || b) absent ∙ or_no (set x y))
]
  where
    or_no : (b : Bool) → (b || false) ≡ b
    or_no true = refl
    or_no false = refl

pub covers_each : (set : ℕ → ℕ → Bool) (others : List Rectangle) → HasAll set (has others) → Each (Covers set) others
covers_each set [] all = tt
covers_each set (r ∷ others) all = (
  λ x y there. all x y (ap (λ (b : Bool). b || has others x y) there),
  covers_each set others (λ x y there. all x y (ap (λ (b : Bool). is_in r x y || b) there ∙ or_true (is_in r x y))),
)

pub not_both : (b : Bool) → b ≡ true → b ≡ false → ⊥
not_both b on off = cc
