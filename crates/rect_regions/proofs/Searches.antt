-- Points looked for in a sorted list.
use Rattle.std.proofs.Common.{◌≡◌, ℕ, zero, suc, ◌+◌, ◌<◌, ◌≤◌, Bool, true, false, ◌||◌, List, [], ◌∷◌, ◌++◌, length, take, drop, get_or, inl, inr, refl, sym, ap, subst, ◌∙◌, arith, add-one}
use Rattle.std.proofs.lemmas.Bool.Decides.{nat_tests}
use Rattle.std.proofs.lemmas.Bool.{cases_Bool}
use Rattle.std.proofs.lemmas.List.{take-append-drop, take_all, drop_all, drop_more}
use Rattle.xp_base.specs.Points.{Rectangle, IsRectangle, is_in}
use Rattle.rect_regions.specs.PointSets.{has, IsLimited}
use Rattle.rect_regions.specs.Bands.{Each, GoesBefore}
use Rattle.rect_regions.specs.Sweeping.{IsSorted, is_past}
use Rattle.rect_regions.proofs.Rects.{has-append, IsOrdered-back}
use Rattle.rect_regions.proofs.Places.{Each-at}
use Rattle.rect_regions.proofs.Areas.{sorted_rest}
use Rattle.rect_regions.proofs.Uniqueness.{one_of, inside}
use Rattle.rect_regions.proofs.RunMerges.{none_or}

abbrev pub IsPast : ℕ → ℕ → Rectangle → Type 0
IsPast x y r = is_past r x y ≡ true

abbrev pub IsAhead : ℕ → ℕ → Rectangle → Type 0
IsAhead x y r = is_past r x y ≡ false

-- a rectangle before the point has it not
past_out : (r : Rectangle) (x y : ℕ) → IsPast x y r → is_in r x y ≡ false
past_out r x y past = grind (arith, nat_tests)

pub all_past : (rects : List Rectangle) (x y : ℕ) → Each (IsPast x y) rects → has rects x y ≡ false
all_past [] x y past = refl
all_past (r ∷ rects) x y past = rw (past_out r x y past.0) (all_past rects x y past.1)

-- nor one that stands behind the first that is not before the point
behind_out : (r s : Rectangle) (x y : ℕ) → GoesBefore r s → IsAhead x y r → is_in s x y ≡ false
behind_out r s x y (inl beside) ahead = grind (arith, nat_tests, beside.0, beside.1, beside.2)
behind_out r s x y (inr above) ahead = grind (arith, nat_tests)

pub none_behind : (r : Rectangle) (rects : List Rectangle) (x y : ℕ) → Each (GoesBefore r) rects → IsAhead x y r → has rects x y ≡ false
none_behind r [] x y before ahead = refl
none_behind r (s ∷ rects) x y before ahead = rw (behind_out r s x y before.0 ahead) (none_behind r rects x y before.1 ahead)

-- what stands before a rectangle before the point is before it too
past_before : (r s : Rectangle) (x y : ℕ) → IsRectangle s → GoesBefore r s → IsPast x y s → IsPast x y r
past_before r s x y sized (inl beside) past = grind (arith, nat_tests, beside.0, beside.1, beside.2)
past_before r s x y sized (inr above) past = grind (arith, nat_tests, sized.high)

pub past_up_to : (rects : List Rectangle) (k : ℕ) (d : Rectangle) (x y : ℕ) → IsSorted rects → k < length rects → IsPast x y (get_or rects k d) → Each (IsPast x y) (take (suc k) rects)
past_up_to [] k d x y sorted low past = absurd (omega arith)
past_up_to (r ∷ rects) zero d x y sorted low past = (past, tt)
past_up_to (r ∷ rects) (suc k) d x y sorted low past =
    let near : k < length rects = omega arith in (
      past_before r (get_or rects k d) x y (Each-at IsRectangle rects k d sorted.sized.1 near) (Each-at (GoesBefore r) rects k d sorted.ordered.0 near) past,
      past_up_to rects k d x y (sorted_rest r rects sorted) near past,
    )

ahead_behind : (r s : Rectangle) (x y : ℕ) → IsRectangle s → GoesBefore r s → IsAhead x y r → IsAhead x y s
ahead_behind r s x y sized before ahead = elim (cases_Bool (is_past s x y)) [
  | inl past ↦ let is = past_before r s x y sized before past in cc
  | inr ahead_too ↦ ahead_too
]

ahead_all : (r : Rectangle) (rects : List Rectangle) (x y : ℕ) → Each IsRectangle rects → Each (GoesBefore r) rects → IsAhead x y r → Each (IsAhead x y) rects
ahead_all r [] x y sized before ahead = tt
ahead_all r (s ∷ rects) x y sized before ahead = (ahead_behind r s x y sized.0 before.0 ahead, ahead_all r rects x y sized.1 before.1 ahead)

pub ahead_from : (rects : List Rectangle) (k : ℕ) (d : Rectangle) (x y : ℕ) → IsSorted rects → k < length rects → IsAhead x y (get_or rects k d) → Each (IsAhead x y) (drop k rects)
ahead_from [] k d x y sorted low ahead = absurd (omega arith)
ahead_from (r ∷ rects) zero d x y sorted low ahead = (ahead, ahead_all r rects x y sorted.sized.1 sorted.ordered.0 ahead)
ahead_from (r ∷ rects) (suc k) d x y sorted low ahead = ahead_from rects k d x y (sorted_rest r rects sorted) (omega arith) ahead

pub ahead_past_all : (rects : List Rectangle) (k x y : ℕ) → length rects ≤ k → Each (IsAhead x y) (drop k rects)
ahead_past_all rects k x y past = rw (drop_all k rects past) tt

-- the place so found decides
pub has_none : (rects : List Rectangle) (k x y : ℕ) → length rects ≤ k → Each (IsPast x y) (take k rects) → has rects x y ≡ false
has_none rects k x y all before = all_past rects x y (subst (λ (l : List Rectangle). Each (IsPast x y) l) (take_all k rects all) before)

first_decides : (front back : List Rectangle) (r : Rectangle) (x y : ℕ) → IsSorted (front ++ r ∷ back) → Each (IsPast x y) front → IsAhead x y r → has (front ++ r ∷ back) x y ≡ is_in r x y
first_decides front back r x y sorted before ahead =
    has-append front (r ∷ back) x y
    ∙ none_or _ _ (all_past front x y before)
    ∙ ap (λ (b : Bool). is_in r x y || b) (none_behind r back x y (IsOrdered-back front (r ∷ back) sorted.ordered).0 ahead)
    ∙ or_no (is_in r x y)
  where
    or_no : (b : Bool) → (b || false) ≡ b
    or_no true = refl
    or_no false = refl

pub has_place : (rects : List Rectangle) (r : Rectangle) (k x y : ℕ) → IsSorted rects → k < length rects → r ≡ get_or rects k r → Each (IsPast x y) (take k rects) → Each (IsAhead x y) (drop k rects)
    → has rects x y ≡ is_in r x y
has_place rects r k x y sorted low is before behind =
    let rest : drop k rects ≡ r ∷ drop (k + 1) rects = drop_more rects k r low ∙ ap (λ (t : Rectangle). t ∷ drop (k + 1) rects) (sym is) in
    let parts : rects ≡ take k rects ++ r ∷ drop (k + 1) rects = sym (take-append-drop k rects) ∙ ap (λ (l : List Rectangle). take k rects ++ l) rest in
    let named : IsSorted (take k rects ++ r ∷ drop (k + 1) rects) = subst (λ (l : List Rectangle). IsSorted l) parts sorted in
    let ahead : Each (IsAhead x y) (r ∷ drop (k + 1) rects) = subst (λ (l : List Rectangle). Each (IsAhead x y) l) rest behind in
    ap (λ (l : List Rectangle). has l x y) parts ∙ first_decides (take k rects) (drop (k + 1) rects) r x y named before ahead.0

-- the same of a rectangle that was read at a place
pub past_to : (rects : List Rectangle) (k : ℕ) (r : Rectangle) (x y : ℕ) → IsSorted rects → k < length rects → r ≡ get_or rects k r → IsPast x y r → Each (IsPast x y) (take (k + 1) rects)
past_to rects k r x y sorted low is past = rw add-one (past_up_to rects k r x y sorted low (subst (IsPast x y) is past))

pub ahead_at : (rects : List Rectangle) (k : ℕ) (r : Rectangle) (x y : ℕ) → IsSorted rects → k < length rects → r ≡ get_or rects k r → IsAhead x y r → Each (IsAhead x y) (drop k rects)
ahead_at rects k r x y sorted low is ahead = ahead_from rects k r x y sorted low (subst (IsAhead x y) is ahead)

-- all points lie in the square
pub sorted_limited : (rects : List Rectangle) → Each IsRectangle rects → IsLimited (has rects)
sorted_limited rects sized x y there =
    let at = one_of IsRectangle rects x y sized there in
    let in_it = inside at.it x y at.there in
    (omega (arith, in_it.right, at.is.across), omega (arith, in_it.bottom, at.is.down))
