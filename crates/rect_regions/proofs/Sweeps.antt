-- Lists that are swept together, from top to bottom.
use Rattle.std.proofs.Common.{◌≡◌, ℕ, zero, suc, ◌+◌, ◌-◌, ◌<◌, ◌≤◌, Bool, true, false, ◌&&◌, ◌||◌, leb, cond, List, [], ◌∷◌, ◌++◌, length, take, drop, get_or, inl, inr, refl, sym, ap, subst, ◌∙◌, arith}
use Rattle.std.proofs.lemmas.Bool.Decides.{nat_tests}
use Rattle.std.proofs.lemmas.Bool.{cases_lt}
use Rattle.std.proofs.lemmas.List.{append-nil, take-append-drop, length-take-le}
use Rattle.rect_regions.proofs.Places.{Each-at}
use Rattle.xp_base.specs.Points.{Rectangle, IsRectangle}
use Rattle.rect_regions.specs.declared.combination.Combination.{Combination}
use Rattle.rect_regions.specs.PointSets.{has, SamePoints}
use Rattle.rect_regions.specs.Bands.{Each, GoesBefore, IsOrdered, BeginsAnew, IsBanded}
use Rattle.rect_regions.specs.Combinations.{keeps, combined}
use Rattle.rect_regions.specs.Making.{in_rows, columns, HasRows, EndsBy, IsMade, AppendsBand}
use Rattle.rect_regions.specs.Sweeping.{IsSorted, IsBelow, IsStretch, IsLastBand, AddsRows, AddsRest, BeginsBelow, IsSwept}
use Rattle.rect_regions.proofs.Rects.{Each-append, Each-front, Each-back, Each-weaker, Each-both, IsOrdered-append, IsOrdered-front, IsOrdered-back, has-append, has-above, has-below, has-band, or-assoc, before_by_row}
use Rattle.rect_regions.proofs.Makings.{made_nothing, made_ends, row_above, or_false, anew_above, in_rows_at}
use Rattle.rect_regions.proofs.RunMerges.{keeps_none, none_or}
use Rattle.rect_regions.proofs.Searches.{IsPast, IsAhead}

-- rows that are appended and joined
pub rows_added : (old new joined : List Rectangle) (top bottom : ℕ) (row : ℕ → Bool) → AppendsBand old new top bottom row → SamePoints (has joined) (has new) → AddsRows old joined top bottom row
rows_added old new joined top bottom row appended same x y =
    same x y
    ∙ ap (λ (l : List Rectangle). has l x y) appended.parts
    ∙ has-append old appended.band x y
    ∙ ap (λ (b : Bool). has old x y || b) (has-band top bottom appended.band x y appended.shape.rows ∙ ap (λ (b : Bool). b && in_rows top bottom y) (appended.same x))

-- the rows from one on, as far as they were swept
abbrev pub SweptTo : (ℕ → ℕ → Bool) → List Rectangle → List Rectangle → ℕ → ℕ → Type 0
SweptTo set old new from row = (x y : ℕ) → has new x y ≡ (has old x y || (set x y && in_rows from row y))

no_rows : (b : Bool) (from y : ℕ) → (b && in_rows from from y) ≡ false
no_rows true from y = grind (arith, nat_tests)
no_rows false from y = refl

pub swept_begin : (set : ℕ → ℕ → Bool) (old : List Rectangle) (from : ℕ) → SweptTo set old old from from
swept_begin set old from x y = sym (ap (λ (b : Bool). has old x y || b) (no_rows (set x y) from y) ∙ or_false (has old x y))

rows_further : (s r : Bool) (from top bottom y : ℕ) → from ≤ top → top ≤ bottom → (top ≤ y → y < bottom → s ≡ r)
    → ((s && in_rows from top y) || (r && in_rows top bottom y)) ≡ (s && in_rows from bottom y)
rows_further s r from top bottom y order later same = elim (cases_lt y top) [
  | inl above ↦ grind (arith, nat_tests)
  | inr below ↦ elim (cases_lt y bottom) [
    | inl within ↦ let is = same below within in grind (arith, nat_tests)
    | inr past ↦ grind (arith, nat_tests)
  ]
]

pub swept_on : (set : ℕ → ℕ → Bool) (old now new : List Rectangle) (from top bottom : ℕ) (row : ℕ → Bool) → from ≤ top → top ≤ bottom
    → ((x y : ℕ) → top ≤ y → y < bottom → set x y ≡ row x) → SweptTo set old now from top → AddsRows now new top bottom row → SweptTo set old new from bottom
swept_on set old now new from top bottom row order later same so_far more x y =
    more x y
    ∙ ap (λ (b : Bool). b || (row x && in_rows top bottom y)) (so_far x y)
    ∙ sym (or-assoc (has old x y) (set x y && in_rows from top y) (row x && in_rows top bottom y))
    ∙ ap (λ (b : Bool). has old x y || b) (rows_further (set x y) (row x) from top bottom y order later (same x y))

-- what is before a column of the first ends above the row
pub past_ends : (r : Rectangle) (row : ℕ) → IsRectangle r → IsPast 0 row r → r.y + r.h ≤ row
past_ends r row sized past = grind (arith, nat_tests, sized.wide)

pub ahead_reaches : (r : Rectangle) (row : ℕ) → IsAhead 0 row r → row < r.y + r.h
ahead_reaches r row ahead = grind (arith, nat_tests)

-- the last band of a sorted list
rows_of_last : (rects : List Rectangle) (k : ℕ) (d : Rectangle) (row : ℕ) → IsSorted rects → k < length rects → length rects ≤ k + 1 → row ≡ (get_or rects k d).y
    → Each (λ r. row < r.y + r.h → HasRows row (row + (get_or rects k d).h) r) rects
rows_of_last [] k d row sorted low all at = absurd (omega arith)
rows_of_last (r ∷ []) zero d row sorted low all at = (λ reach. record { from_top = sym at; to_bottom = omega arith }, tt)
rows_of_last (r ∷ []) (suc k) d row sorted low all at = absurd (omega arith)
rows_of_last (r ∷ (s ∷ rects)) zero d row sorted low all at = absurd (omega arith)
rows_of_last (r ∷ (s ∷ rects)) (suc k) d row sorted low all at =
    let rest = rows_of_last (s ∷ rects) k d row (record { sized = sorted.sized.1; ordered = sorted.ordered.1 }) (omega arith) (omega arith) at in
    (λ reach. one_up r s sorted.ordered.0.0 row ((get_or (s ∷ rects) k d).h) sorted.sized.1.0 reach rest.0, rest)
  where
    one_up : (r s : Rectangle) → GoesBefore r s → (row high : ℕ) → IsRectangle s → row < r.y + r.h → (row < s.y + s.h → HasRows row (row + high) s) → HasRows row (row + high) r
    one_up r s (inl beside) row high sized reach is =
        let at : HasRows row (row + high) s = is (omega (arith, beside.0, beside.1)) in
        record { from_top = omega (arith, beside.0, at.from_top); to_bottom = omega (arith, beside.0, beside.1, at.to_bottom) }
    one_up r s (inr above) row high sized reach is =
        let at : HasRows row (row + high) s = is (omega (arith, sized.high)) in
        absurd (omega (arith, at.from_top))

record Reaches (P : Rectangle → Type 0) (row : ℕ) (r : Rectangle) : Type 0 where
  reach : row < r.y + r.h
  then_rows : P r

pub last_band_none : (rects : List Rectangle) → rects ≡ [] → IsLastBand rects 0
last_band_none rects none down ends = subst (λ (l : List Rectangle). IsMade l 0 down) (sym none) (made_nothing down)

pub sorted_banded : (rects : List Rectangle) → IsBanded rects → IsSorted rects
sorted_banded rects banded = record { sized = banded.sized; ordered = banded.ordered }

pub last_band_at : (rects : List Rectangle) (r : Rectangle) (k row : ℕ) → IsBanded rects → 1 ≤ length rects → r ≡ get_or rects (length rects - 1) r → row ≡ r.y → k ≤ length rects
    → Each (IsPast 0 row) (take k rects) → Each (IsAhead 0 row) (drop k rects) → IsLastBand rects k
last_band_at rects r k row banded some is at within before behind down ends =
    let front = take k rects in
    let ending = drop k rects in
    let sorted = sorted_banded rects banded in
    let parts : rects ≡ front ++ ending = sym (take-append-drop k rects) in
    let sized : Each IsRectangle (front ++ ending) = subst (λ (l : List Rectangle). Each IsRectangle l) parts banded.sized in
    let found : row ≡ (get_or rects (length rects - 1) r).y = at ∙ ap (λ (t : Rectangle). t.y) is in
    let all = rows_of_last rects (length rects - 1) r row sorted (omega arith) (omega arith) found in
    let named : Each (λ s. row < s.y + s.h → HasRows row (row + (get_or rects (length rects - 1) r).h) s) (front ++ ending) =
    subst (λ (l : List Rectangle). Each (λ s. row < s.y + s.h → HasRows row (row + (get_or rects (length rects - 1) r).h) s) l) parts all in
    let reach = Each-weaker (IsAhead 0 row) (λ (s : Rectangle). row < s.y + s.h) (λ s. ahead_reaches s row) ending behind in
    let rows = Each-both (λ (s : Rectangle). row < s.y + s.h) (λ (s : Rectangle). row < s.y + s.h → HasRows row (row + (get_or rects (length rects - 1) r).h) s)
    (HasRows row (row + (get_or rects (length rects - 1) r).h)) (λ s p q. q p) ending reach
    (Each-back (λ s. row < s.y + s.h → HasRows row (row + (get_or rects (length rects - 1) r).h) s) front ending named) in
    let last_ends : r.y + r.h ≤ down = last_of rects (length rects - 1) r down (omega arith) is ends in
    let high : (get_or rects (length rects - 1) r).h ≡ r.h = ap (λ (t : Rectangle). t.h) (sym is) in
    record {
      banded = banded;
      front = front;
      ending = ending;
      parts = parts;
      place = take_length k rects within;
      some = λ none. absurd (not_all_past rects r k row banded some is at parts none before);
      top = row;
      bottom = row + (get_or rects (length rects - 1) r).h;
      before = Each-both IsRectangle (IsPast 0 row) (EndsBy row) (λ s. past_ends s row) front (Each-front IsRectangle front ending sized) before;
      rows = rows;
      limit = omega arith;
      reach = omega arith;
    }
  where
    last_of : (rects : List Rectangle) (k : ℕ) (r : Rectangle) (down : ℕ) → k < length rects → r ≡ get_or rects k r → Each (EndsBy down) rects → r.y + r.h ≤ down
    last_of rects k r down low is ends = subst (λ (t : Rectangle). t.y + t.h ≤ down) (sym is) (Each-at (EndsBy down) rects k r ends low)

    take_length : (k : ℕ) (rects : List Rectangle) → k ≤ length rects → length (take k rects) ≡ k
    take_length k rects within = length-take-le k rects within

    not_all_past : (rects : List Rectangle) (r : Rectangle) (k row : ℕ) → IsBanded rects → 1 ≤ length rects → r ≡ get_or rects (length rects - 1) r → row ≡ r.y
        → rects ≡ take k rects ++ drop k rects → drop k rects ≡ [] → Each (IsPast 0 row) (take k rects) → ⊥
    not_all_past rects r k row banded some is at parts none before =
        let whole : rects ≡ take k rects = parts ∙ ap (λ (l : List Rectangle). take k rects ++ l) none ∙ append-nil (take k rects) in
        let past : Each (IsPast 0 row) rects = subst (λ (l : List Rectangle). Each (IsPast 0 row) l) (sym whole) before in
        let low : length rects - 1 < length rects = omega arith in
        let last : IsPast 0 row r = subst (IsPast 0 row) (sym is) (Each-at (IsPast 0 row) rects (length rects - 1) r past low) in
        let size : IsRectangle r = subst IsRectangle (sym is) (Each-at IsRectangle rects (length rects - 1) r banded.sized low) in
        omega (arith, past_ends r row size last, size.high)

-- what stands above a row and what reaches below it
abbrev pub AllAbove : List Rectangle → Rectangle → Type 0
AllAbove left r = Each (λ s. r.y + r.h ≤ s.y) left

above_one : (r s : Rectangle) (row : ℕ) → r.y + r.h ≤ row → GoesBefore r s → row < s.y + s.h → r.y + r.h ≤ s.y
above_one r s row end (inl beside) reach = absurd (omega (arith, beside.0, beside.1))
above_one r s row end (inr above) reach = above

pub all_above : (above left : List Rectangle) (row : ℕ) → IsOrdered (above ++ left) → Each (EndsBy row) above → Each (λ s. row < s.y + s.h) left → Each (AllAbove left) above
all_above [] left row ordered ends reach = tt
all_above (r ∷ above) left row ordered ends reach = (
  Each-both (GoesBefore r) (λ (s : Rectangle). row < s.y + s.h) (λ (s : Rectangle). r.y + r.h ≤ s.y) (λ s. above_one r s row ends.0) left (Each-back (GoesBefore r) above left ordered.0) reach,
  all_above above left row ordered.1 ends.1 reach,
)

-- no rectangle above begins anew only because of what is left below
anew_front : (above left : List Rectangle) (r : Rectangle) → IsRectangle r → AllAbove left r → BeginsAnew (has (above ++ left)) r → BeginsAnew (has above) r
anew_front above left r sized lower anew row next equal =
    anew row next (λ x. same x row (omega (arith, sized.high)) ∙ equal x ∙ sym (same x r.y (omega (arith, sized.high))))
  where
    same : (x y : ℕ) → y < r.y + r.h → has (above ++ left) x y ≡ has above x y
    same x y high = has-append above left x y ∙ ap (λ (b : Bool). has above x y || b) (has-below (r.y + r.h) left x y lower high) ∙ or_false (has above x y)

record Front (left : List Rectangle) (r : Rectangle) : Type 0 where
  size : IsRectangle r
  lower : AllAbove left r

pub front_banded : (above left : List Rectangle) → IsBanded (above ++ left) → Each (AllAbove left) above → IsBanded above
front_banded above left banded lower =
    let sized = Each-front IsRectangle above left banded.sized in
    let both = Each-both IsRectangle (AllAbove left) (Front left) (λ r p q. record { size = p; lower = q }) above sized lower in
    record {
      sized = sized;
      ordered = IsOrdered-front above left banded.ordered;
      joined = Each-both (Front left) (BeginsAnew (has (above ++ left))) (BeginsAnew (has above)) (λ r p. anew_front above left r p.size p.lower) above both
          (Each-front (BeginsAnew (has (above ++ left))) above left banded.joined);
      points = λ x y. refl;
    }

pub none_banded : IsBanded []
none_banded = record { sized = tt; ordered = tt; joined = tt; points = λ x y. refl }

pub Each-swap : {A B : Type 0} (R : A → B → Type 0) (xs : List A) (ys : List B) → Each (λ x. Each (R x) ys) xs → Each (λ y. Each (λ x. R x y) xs) ys
Each-swap {A} {B} R xs [] p = tt
Each-swap {A} {B} R xs (y ∷ ys) p = (
  Each-weaker (λ (x : A). Each (R x) (y ∷ ys)) (λ x. R x y) (λ x q. q.0) xs p,
  Each-swap R xs ys (Each-weaker (λ (x : A). Each (R x) (y ∷ ys)) (λ x. Each (R x) ys) (λ x q. q.1) xs p),
)

pub left_lower : (above left : List Rectangle) (from : ℕ) → Each (AllAbove left) above → ((row : ℕ) → Each (EndsBy row) above → from ≤ row) → Each (λ s. from ≤ s.y) left
left_lower above left from lower least =
    Each-weaker (λ (s : Rectangle). Each (λ r. r.y + r.h ≤ s.y) above) (λ (s : Rectangle). from ≤ s.y) (λ s ends. least s.y ends) left
    (Each-swap (λ (r s : Rectangle). r.y + r.h ≤ s.y) above left lower)

-- the rest of a list, behind what was made of its rows
pub record Rest (mid below left : List Rectangle) (y bottom : ℕ) : Type 0 where
  pub place : ℕ
  pub made : IsMade mid place bottom
  pub later : y < bottom
  pub after : IsBelow bottom left below
  pub lower : Each (λ r. bottom ≤ r.y) below
  pub rows : (p q : ℕ) → y ≤ q → q < bottom → has mid p q ≡ has left p q
  pub anew : Each (BeginsBelow y left) left

pub rest_points : (mid below left : List Rectangle) (y bottom : ℕ) → Rest mid below left y bottom → (p q : ℕ) → y ≤ q → has (mid ++ below) p q ≡ has left p q
rest_points mid below left y bottom rest p q from = elim (cases_lt q bottom) [
  | inl high ↦
      has-append mid below p q ∙ ap (λ (b : Bool). has mid p q || b) (has-below bottom below p q rest.lower high) ∙ or_false (has mid p q) ∙ rest.rows p q from high
  | inr low ↦
      has-append mid below p q ∙ none_or _ _ (has-above bottom mid p q (made_ends mid rest.place bottom rest.made) low) ∙ sym (rest.after.points p q low)
]

anew_rest : (mid below left : List Rectangle) (y bottom : ℕ) → Rest mid below left y bottom → (r : Rectangle) → bottom ≤ r.y → BeginsBelow y left r → BeginsAnew (has (mid ++ below)) r
anew_rest mid below left y bottom rest r lower anew row next equal =
    let later = rest.later in
    anew (omega arith) row next (λ x.
    sym (rest_points mid below left y bottom rest x row (omega arith)) ∙ equal x ∙ rest_points mid below left y bottom rest x r.y (omega arith))

pub rest_banded : (mid below left : List Rectangle) (y bottom : ℕ) → Rest mid below left y bottom → IsBanded (mid ++ below)
rest_banded mid below left y bottom rest =
    let banded = rest.made.banded in
    let ends = made_ends mid rest.place bottom rest.made in
    let all : Each (BeginsBelow y left) (rest.after.front ++ below) = subst (λ (l : List Rectangle). Each (BeginsBelow y left) l) rest.after.parts rest.anew in
    let early = Each-both (λ (r : Rectangle). r.y < bottom) (BeginsAnew (has mid)) (BeginsAnew (has (mid ++ below))) (anew_above mid below bottom rest.lower) mid
    (Each-both IsRectangle (EndsBy bottom) (λ (r : Rectangle). r.y < bottom) (row_above bottom) mid banded.sized ends) banded.joined in
    let late = Each-both (λ (r : Rectangle). bottom ≤ r.y) (BeginsBelow y left) (BeginsAnew (has (mid ++ below))) (anew_rest mid below left y bottom rest) below rest.lower
    (Each-back (BeginsBelow y left) rest.after.front below all) in
    record {
      sized = Each-append IsRectangle mid below banded.sized rest.after.sorted.sized;
      ordered = IsOrdered-append mid below banded.ordered rest.after.sorted.ordered (before_by_row bottom mid below ends rest.lower);
      joined = Each-append (BeginsAnew (has (mid ++ below))) mid below early late;
      points = λ x q. refl;
    }

-- what is kept of a list alone
keeps_alone : (c : Combination) (b : Bool) → keeps c true false ≡ true → keeps c b false ≡ b
keeps_alone c true alone = alone
keeps_alone c false alone = keeps_none c

keeps_not_alone : (c : Combination) (b : Bool) → keeps c true false ≡ false → keeps c b false ≡ false
keeps_not_alone c true alone = alone
keeps_not_alone c false alone = keeps_none c

rest_rows : (c : Combination) (old mid left band below : List Rectangle) (last y bottom : ℕ) → keeps c true false ≡ true → IsMade old last y → IsStretch left y bottom band below
    → AddsRows old mid y bottom (λ x. keeps c (columns band x) false) → (p q : ℕ) → y ≤ q → q < bottom → has mid p q ≡ has left p q
rest_rows c old mid left band below last y bottom alone made is more p q from until =
    more p q
    ∙ none_or _ _ (has-above y old p q (made_ends old last y made) from)
    ∙ in_rows_at (keeps c (columns band p) false) y bottom q from until
    ∙ keeps_alone c (columns band p) alone
    ∙ sym (is.rows p q from until)

pub rest_made : (c : Combination) (old mid left band below : List Rectangle) (last place y bottom : ℕ) → keeps c true false ≡ true → IsMade old last y → IsMade mid place bottom
    → IsStretch left y bottom band below → AddsRows old mid y bottom (λ x. keeps c (columns band x) false) → Each (BeginsBelow y left) left → Rest mid below left y bottom
rest_made c old mid left band below last place y bottom alone before made is more anew = record {
  place = place;
  made = made;
  later = is.down;
  after = is.after;
  lower = is.lower;
  rows = rest_rows c old mid left band below last y bottom alone before is more;
  anew = anew;
}

in_rows_early : (b : Bool) (top bottom y : ℕ) → y < top → (b && in_rows top bottom y) ≡ false
in_rows_early true top bottom y high = grind (arith, nat_tests)
in_rows_early false top bottom y high = refl

from_late : (b : Bool) (row y : ℕ) → row ≤ y → (b && leb row y) ≡ b
from_late true row y low = grind (arith, nat_tests)
from_late false row y low = refl

from_early : (b : Bool) (row y : ℕ) → y < row → (b && leb row y) ≡ false
from_early true row y high = grind (arith, nat_tests)
from_early false row y high = refl

pub rest_added : (c : Combination) (old mid below left : List Rectangle) (last y bottom : ℕ) (row : ℕ → Bool) → IsMade old last y → AddsRows old mid y bottom row → Rest mid below left y bottom
    → AddsRest old (mid ++ below) y left
rest_added c old mid below left last y bottom row made more rest p q = elim (cases_lt q y) [
  | inl above ↦
      let later = rest.later in
      has-append mid below p q
      ∙ ap (λ (b : Bool). has mid p q || b) (has-below bottom below p q rest.lower (omega arith))
      ∙ or_false (has mid p q)
      ∙ more p q
      ∙ ap (λ (b : Bool). has old p q || b) (in_rows_early (row p) y bottom q above ∙ sym (from_early (has left p q) y q above))
  | inr low ↦
      rest_points mid below left y bottom rest p q low
      ∙ sym (from_late (has left p q) y q low)
      ∙ sym (none_or (has old p q) (has left p q && leb y q) (has-above y old p q (made_ends old last y made) low))
]

pub rest_none : (old left : List Rectangle) (y : ℕ) → left ≡ [] → AddsRest old old y left
rest_none old left y none p q = sym (ap (λ (l : List Rectangle). has old p q || (has l p q && leb y q)) none ∙ or_false (has old p q))

-- what was swept, as a whole
pub record Split (c : Combination) (one other above left : List Rectangle) (from : ℕ) : Type 0 where
  pub parts : one ≡ above ++ left
  pub ends : Each (EndsBy from) above
  pub lower : Each (λ s. from ≤ s.y) left
  pub first : Each (λ s. from ≤ s.y) other

split_late : (one above left : List Rectangle) (from p q : ℕ) → one ≡ above ++ left → Each (EndsBy from) above → from ≤ q → has one p q ≡ has left p q
split_late one above left from p q parts ends low =
    ap (λ (l : List Rectangle). has l p q) parts ∙ has-append above left p q ∙ none_or _ _ (has-above from above p q ends low)

split_early : (one above left : List Rectangle) (from p q : ℕ) → one ≡ above ++ left → Each (λ s. from ≤ s.y) left → q < from → has one p q ≡ has above p q
split_early one above left from p q parts lower high =
    ap (λ (l : List Rectangle). has l p q) parts ∙ has-append above left p q ∙ ap (λ (b : Bool). has above p q || b) (has-below from left p q lower high) ∙ or_false (has above p q)

in_rows_past : (b : Bool) (top bottom y : ℕ) → bottom ≤ y → (b && in_rows top bottom y) ≡ false
in_rows_past true top bottom y low = grind (arith, nat_tests)
in_rows_past false top bottom y low = refl

-- with nothing of the first list alone kept
pub swept_alone : (c : Combination) (one other above left new rest : List Rectangle) (from last y : ℕ) → keeps c true false ≡ false → Split c one other above left from
    → IsSwept c left other [] new from last y rest → SamePoints (has new) (combined c (has one) (has other))
swept_alone c one other above left new rest from last y alone split swept p q =
    swept.points p q ∙ elim (cases_lt q from) as (λ _. (combined c (has left) (has other) p q && in_rows from y q) ≡ combined c (has one) (has other) p q) [
      | inl high ↦
          in_rows_early (combined c (has left) (has other) p q) from y q high
          ∙ sym (ap (λ (b : Bool). keeps c (has one p q) b) (has-below from other p q split.first high) ∙ keeps_not_alone c (has one p q) alone)
      | inr low ↦ elim (cases_lt q y) as (λ _. (combined c (has left) (has other) p q && in_rows from y q) ≡ combined c (has one) (has other) p q) [
        | inl within ↦
            in_rows_at (combined c (has left) (has other) p q) from y q low within
            ∙ ap (λ (b : Bool). keeps c b (has other p q)) (sym (split_late one above left from p q split.parts split.ends low))
        | inr past ↦
            in_rows_past (combined c (has left) (has other) p q) from y q past
            ∙ sym (ap (λ (b : Bool). keeps c (has one p q) b) (has-above y other p q swept.past past) ∙ keeps_not_alone c (has one p q) alone)
      ]
    ]

-- with all of the first list alone kept, above and below
pub swept_with : (c : Combination) (one other above left new rest all : List Rectangle) (from last y : ℕ) → keeps c true false ≡ true → Split c one other above left from
    → IsSwept c left other above new from last y rest → AddsRest new all y rest → SamePoints (has all) (combined c (has one) (has other))
swept_with c one other above left new rest all from last y alone split swept added p q =
    added p q
    ∙ ap (λ (b : Bool). b || (has rest p q && leb y q)) (swept.points p q)
    ∙ elim (cases_lt q from) as (λ _. ((has above p q || (combined c (has left) (has other) p q && in_rows from y q)) || (has rest p q && leb y q)) ≡ combined c (has one) (has other) p q) [
      | inl high ↦
          three _ _ _ (has above p q) (in_rows_early (combined c (has left) (has other) p q) from y q high) (from_early (has rest p q) y q (omega (arith, swept.order)))
          ∙ sym (ap (λ (b : Bool). keeps c (has one p q) b) (has-below from other p q split.first high) ∙ keeps_alone c (has one p q) alone
          ∙ split_early one above left from p q split.parts split.lower high)
      | inr low ↦ elim (cases_lt q y) as (λ _. ((has above p q || (combined c (has left) (has other) p q && in_rows from y q)) || (has rest p q && leb y q)) ≡ combined c (has one) (has other) p q) [
        | inl within ↦
            second _ _ _ (combined c (has left) (has other) p q) (has-above from above p q split.ends low) (in_rows_at (combined c (has left) (has other) p q) from y q low within)
            (from_early (has rest p q) y q within)
            ∙ ap (λ (b : Bool). keeps c b (has other p q)) (sym (split_late one above left from p q split.parts split.ends low))
        | inr past ↦
            third _ _ _ (has rest p q) (has-above from above p q split.ends low) (in_rows_past (combined c (has left) (has other) p q) from y q past) (from_late (has rest p q) y q past)
            ∙ sym (swept.left.points p q past)
            ∙ sym (split_late one above left from p q split.parts split.ends low)
            ∙ sym (ap (λ (b : Bool). keeps c (has one p q) b) (has-above y other p q swept.past past) ∙ keeps_alone c (has one p q) alone)
      ]
    ]
  where
    three : (a b c d : Bool) → b ≡ false → c ≡ false → ((a || b) || c) ≡ a
    three a b c d one two = rw (one, two) (or_false (a || false) ∙ or_false a)

    second : (a b c d : Bool) → a ≡ false → b ≡ d → c ≡ false → ((a || b) || c) ≡ d
    second a b c d one two last = rw (one, last) (or_false b ∙ two)

    third : (a b c d : Bool) → a ≡ false → b ≡ false → c ≡ d → ((a || b) || c) ≡ d
    third a b c d one two last = rw (one, two) last

-- what is left begins anew, as in the whole list
anew_left : (one left : List Rectangle) (y : ℕ) → ((p q : ℕ) → y ≤ q → has one p q ≡ has left p q) → (r : Rectangle) → BeginsAnew (has one) r → BeginsBelow y left r
anew_left one left y same r anew later row next equal =
    anew row next (λ x. same x row (omega arith) ∙ equal x ∙ sym (same x r.y (omega arith)))

pub left_anew : (one other above left rest : List Rectangle) (c : Combination) (from y : ℕ) → IsBanded one → from ≤ y → Split c one other above left from → IsBelow y left rest
    → Each (BeginsBelow y rest) rest
left_anew one other above left rest c from y banded order split below =
    let whole : Each (BeginsAnew (has one)) (above ++ left) = subst (λ (l : List Rectangle). Each (BeginsAnew (has one)) l) split.parts banded.joined in
    let part : Each (BeginsAnew (has one)) (below.front ++ rest) = subst (λ (l : List Rectangle). Each (BeginsAnew (has one)) l) below.parts (Each-back (BeginsAnew (has one)) above left whole) in
    Each-weaker (BeginsAnew (has one)) (BeginsBelow y rest)
    (anew_left one rest y (λ p q low. split_late one above left from p q split.parts split.ends (omega arith) ∙ below.points p q low)) rest (Each-back (BeginsAnew (has one)) below.front rest part)

-- how a list is split at the first row of another
pub split_at_row : (c : Combination) (one other above left : List Rectangle) (row from : ℕ) → IsBanded one → one ≡ above ++ left → Each (IsPast 0 row) above → Each (IsAhead 0 row) left
    → Each (λ s. row ≤ s.y) other → Each (EndsBy from) above → ((r : ℕ) → Each (EndsBy r) above → from ≤ r) → Split c one other above left from
split_at_row c one other above left row from banded parts before behind first ends least =
    let sized : Each IsRectangle (above ++ left) = subst (λ (l : List Rectangle). Each IsRectangle l) parts banded.sized in
    let ordered : IsOrdered (above ++ left) = subst IsOrdered parts banded.ordered in
    let over = Each-both IsRectangle (IsPast 0 row) (EndsBy row) (λ s. past_ends s row) above (Each-front IsRectangle above left sized) before in
    let reach = Each-weaker (IsAhead 0 row) (λ (s : Rectangle). row < s.y + s.h) (λ s. ahead_reaches s row) left behind in
    let near : from ≤ row = least row over in
    record {
      parts = parts;
      ends = ends;
      lower = left_lower above left from (all_above above left row ordered over reach) least;
      first = Each-weaker (λ (s : Rectangle). row ≤ s.y) (λ (s : Rectangle). from ≤ s.y) (λ s h. omega arith) other first;
    }

pub above_banded : (one above left : List Rectangle) (row : ℕ) → IsBanded one → one ≡ above ++ left → Each (IsPast 0 row) above → Each (IsAhead 0 row) left → IsBanded above
above_banded one above left row banded parts before behind =
    let named : IsBanded (above ++ left) = subst (λ (l : List Rectangle). IsBanded l) parts banded in
    let over = Each-both IsRectangle (IsPast 0 row) (EndsBy row) (λ s. past_ends s row) above (Each-front IsRectangle above left named.sized) before in
    let reach = Each-weaker (IsAhead 0 row) (λ (s : Rectangle). row < s.y + s.h) (λ s. ahead_reaches s row) left behind in
    front_banded above left named (all_above above left row named.ordered over reach)

below_here : (row : ℕ) (rects : List Rectangle) → IsSorted rects → Each (λ s. row ≤ s.y) rects → IsBelow row rects rects
below_here row rects sorted lower = record {
  front = [];
  parts = refl;
  sorted = sorted;
  reach = Each-both IsRectangle (λ (s : Rectangle). row ≤ s.y) (λ (s : Rectangle). row < s.y + s.h) (λ s size low. omega (arith, size.high)) rects sorted.sized lower;
  points = λ p q low. refl;
}

pub below_split : (c : Combination) (one other above left : List Rectangle) (from : ℕ) → IsBanded one → Split c one other above left from → IsBelow from left left
below_split c one other above left from banded split =
    let named : IsBanded (above ++ left) = subst (λ (l : List Rectangle). IsBanded l) split.parts banded in
    below_here from left (record { sized = Each-back IsRectangle above left named.sized; ordered = IsOrdered-back above left named.ordered }) split.lower

pub below_other : (c : Combination) (one other above left : List Rectangle) (from : ℕ) → IsSorted other → Split c one other above left from → IsBelow from other other
below_other c one other above left from sorted split = below_here from other sorted split.first

-- what was kept of the rectangles above
pub kept_banded : (b : Bool) (rects above : List Rectangle) → rects ≡ cond b above [] → IsBanded above → IsBanded rects
kept_banded true rects above is banded = subst IsBanded (sym is) banded
kept_banded false rects above is banded = subst IsBanded (sym is) none_banded

pub kept_ends : (b : Bool) (rects above : List Rectangle) (row : ℕ) → rects ≡ cond b above [] → Each (EndsBy row) above → Each (EndsBy row) rects
kept_ends true rects above row is ends = subst (λ (l : List Rectangle). Each (EndsBy row) l) (sym is) ends
kept_ends false rects above row is ends = subst (λ (l : List Rectangle). Each (EndsBy row) l) (sym is) tt

pub row_limit : (left : List Rectangle) (row : ℕ) → 1 ≤ length left → Each IsRectangle left → Each (λ r. row < r.y + r.h) left → row < 4096
row_limit [] row some sized reach = absurd (omega arith)
row_limit (r ∷ left) row some sized reach = omega (arith, sized.0.down, reach.0)

-- the same of a list that is split at a place
pub above_banded_at : (one above : List Rectangle) (row k : ℕ) → IsBanded one → above ≡ take k one → Each (IsPast 0 row) (take k one) → Each (IsAhead 0 row) (drop k one) → IsBanded above
above_banded_at one above row k banded is before behind =
    subst IsBanded (sym is) (above_banded one (take k one) (drop k one) row banded (sym (take-append-drop k one)) before behind)

pub split_of : (c : Combination) (one other above left : List Rectangle) (row from k : ℕ) → IsBanded one → above ≡ take k one → left ≡ drop k one
    → Each (IsPast 0 row) (take k one) → Each (IsAhead 0 row) (drop k one) → Each (λ s. row ≤ s.y) other → Each (EndsBy from) above → ((r : ℕ) → Each (EndsBy r) above → from ≤ r)
    → Split c one other above left from
split_of c one other above left row from k banded is rest before behind first ends least =
    let parts : one ≡ above ++ left = sym (take-append-drop k one) ∙ ap (λ (l : List Rectangle). l ++ drop k one) (sym is) ∙ ap (λ (l : List Rectangle). above ++ l) (sym rest) in
    split_at_row c one other above left row from banded parts (subst (λ (l : List Rectangle). Each (IsPast 0 row) l) (sym is) before)
    (subst (λ (l : List Rectangle). Each (IsAhead 0 row) l) (sym rest) behind) first ends least
