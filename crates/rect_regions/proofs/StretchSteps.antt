-- Lists of rectangles gone over from top to bottom.
use Rattle.std.proofs.Common.{◌≡◌, ℕ, zero, suc, ◌+◌, ◌<◌, ◌≤◌, Bool, ◌||◌, List, [], ◌∷◌, ◌++◌, length, drop, get_or, inl, inr, refl, sym, ap, subst, ◌∙◌, arith, append_assoc}
use Rattle.xp_base.specs.Points.{Rectangle, IsRectangle}
use Rattle.rect_regions.specs.declared.combination.Combination.{Combination}
use Rattle.rect_regions.specs.PointSets.{has}
use Rattle.rect_regions.specs.Bands.{Each, GoesBefore, IsOrdered}
use Rattle.rect_regions.specs.Combinations.{keeps, combined}
use Rattle.rect_regions.specs.Making.{columns, HasRows, EndsBy}
use Rattle.rect_regions.specs.Sweeping.{IsSorted, IsBelow, BeginsElsewhere, IsFirstBand, IsStretch}
use Rattle.rect_regions.proofs.Rects.{Each-append, Each-front, Each-back, Each-weaker, Each-both, IsOrdered-front, IsOrdered-back, has-append, has-above, has-below, has-band}
use Rattle.rect_regions.proofs.Runs.{Gaps-band}
use Rattle.rect_regions.proofs.Makings.{in_rows_at, or_false}
use Rattle.rect_regions.proofs.RunMerges.{items_from}

-- the last of a sorted list ends lowest
pub ends_by_lowest : (rects : List Rectangle) (k : ℕ) (d : Rectangle) → IsSorted rects → k < length rects → length rects ≤ k + 1
    → Each (EndsBy ((get_or rects k d).y + (get_or rects k d).h)) rects
ends_by_lowest [] k d sorted low all = absurd (omega arith)
ends_by_lowest (r ∷ []) zero d sorted low all = (omega arith, tt)
ends_by_lowest (r ∷ []) (suc k) d sorted low all = absurd (omega arith)
ends_by_lowest (r ∷ (s ∷ rects)) zero d sorted low all = absurd (omega arith)
ends_by_lowest (r ∷ (s ∷ rects)) (suc k) d sorted low all =
    let rest = ends_by_lowest (s ∷ rects) k d (record { sized = sorted.sized.1; ordered = sorted.ordered.1 }) (omega arith) (omega arith) in
    (ends_before r s sorted.ordered.0.0 ((get_or (s ∷ rects) k d).y + (get_or (s ∷ rects) k d).h) rest.0, rest)
  where
    ends_before : (r s : Rectangle) → GoesBefore r s → (limit : ℕ) → s.y + s.h ≤ limit → r.y + r.h ≤ limit
    ends_before r s (inl beside) limit end = omega (arith, beside.0, beside.1)
    ends_before r s (inr above) limit end = omega arith

-- what goes before another begins where that does, or above
begins_before : (r s : Rectangle) → GoesBefore r s → r.y ≤ s.y
begins_before r s (inl beside) = omega (arith, beside.0)
begins_before r s (inr above) = omega arith

pub begins_sorted : (r : Rectangle) (rects : List Rectangle) → IsOrdered (r ∷ rects) → Each (λ s. r.y ≤ s.y) (r ∷ rects)
begins_sorted r rects ordered = (omega arith, Each-weaker (GoesBefore r) (λ (s : Rectangle). r.y ≤ s.y) (begins_before r) rects ordered.0)

ends_sorted : (s : Rectangle) (row : ℕ) → row ≤ s.y → row ≤ s.y + s.h
ends_sorted s row begin = omega arith

-- the first items are a band
pub record BandFacts (top bottom : ℕ) (band below : List Rectangle) : Type 0 where
  pub rows : Each (HasRows top bottom) band
  pub lower : Each (λ s. bottom ≤ s.y) below

same_band : (r s : Rectangle) → IsRectangle r → GoesBefore r s → s.y ≡ r.y → HasRows r.y (r.y + r.h) s
same_band r s sized (inl beside) at = record { from_top = at; to_bottom = omega (arith, beside.0, beside.1) }
same_band r s sized (inr above) at = absurd (omega (arith, sized.high))

lower_band : (r s : Rectangle) → GoesBefore r s → (s.y ≡ r.y → ⊥) → r.y + r.h ≤ s.y
lower_band r s (inl beside) other = absurd (other beside.0)
lower_band r s (inr above) other = above

lower_all : (r : Rectangle) (below : List Rectangle) → Each (GoesBefore r) below → IsOrdered below → BeginsElsewhere r.y below → Each (λ s. r.y + r.h ≤ s.y) below
lower_all r [] before ordered other = tt
lower_all r (s ∷ below) before ordered other =
    let near = lower_band r s before.0 other in
    Each-weaker (λ (t : Rectangle). s.y ≤ t.y) (λ (t : Rectangle). r.y + r.h ≤ t.y) (λ t h. omega arith) (s ∷ below) (begins_sorted s below ordered)

pub band_facts : (r : Rectangle) (others below : List Rectangle) → IsSorted (r ∷ (others ++ below)) → Each (λ s. s.y ≡ r.y) others → BeginsElsewhere r.y below
    → BandFacts r.y (r.y + r.h) (r ∷ others) below
band_facts r others below sorted same other =
    let sized = sorted.sized.0 in
    record {
      rows = (
        record { from_top = refl; to_bottom = refl },
        Each-both (GoesBefore r) (λ (s : Rectangle). s.y ≡ r.y) (HasRows r.y (r.y + r.h)) (λ s. same_band r s sized) others (Each-front (GoesBefore r) others below sorted.ordered.0) same,
      );
      lower = lower_all r below (Each-back (GoesBefore r) others below sorted.ordered.0) (IsOrdered-back others below sorted.ordered.1) other;
    }

-- stretches
pub stretch_none : (top : ℕ) → top < 4096 → IsStretch [] top 4096 [] []
stretch_none top low = record {
  down = low;
  limit = omega arith;
  runs = record { sized = tt; gaps = tt };
  rows = λ x y from until. refl;
  within = tt;
  after = record { front = []; parts = refl; sorted = record { sized = tt; ordered = tt }; reach = tt; points = λ x y from. refl };
  lower = tt;
}

reaches : (row : ℕ) (s : Rectangle) → IsRectangle s → row ≤ s.y → row < s.y + s.h
reaches row s sized begin = omega (arith, sized.high)

pub stretch_gap : (r : Rectangle) (rects : List Rectangle) (top : ℕ) → IsSorted (r ∷ rects) → top < r.y → IsStretch (r ∷ rects) top r.y [] (r ∷ rects)
stretch_gap r rects top sorted high =
    let begins = begins_sorted r rects sorted.ordered in
    record {
      down = high;
      limit = omega (arith, sorted.sized.0.down);
      runs = record { sized = tt; gaps = tt };
      rows = λ x y from until. has-below r.y (r ∷ rects) x y begins until;
      within = Each-weaker (λ (s : Rectangle). r.y ≤ s.y) (λ (s : Rectangle). r.y ≤ s.y + s.h) (λ s. ends_sorted s r.y) (r ∷ rects) begins;
      after = record {
        front = [];
        parts = refl;
        sorted = sorted;
        reach = Each-both IsRectangle (λ (s : Rectangle). r.y ≤ s.y) (λ (s : Rectangle). r.y < s.y + s.h) (λ s. reaches r.y s) (r ∷ rects) sorted.sized begins;
        points = λ x y from. refl;
      };
      lower = begins;
    }

band_above : (t b x y : ℕ) (band below : List Rectangle) → Each (HasRows t b) band → Each (λ s. b ≤ s.y) below → t ≤ y → y < b → has (band ++ below) x y ≡ columns band x
band_above t b x y band below rows lower from until =
    has-append band below x y
    ∙ ap (λ (v : Bool). has band x y || v) (has-below b below x y lower until)
    ∙ or_false (has band x y)
    ∙ has-band t b band x y rows
    ∙ in_rows_at (columns band x) t b y from until

gone_above : (t b x y : ℕ) (band below : List Rectangle) → Each (HasRows t b) band → b ≤ y → has (band ++ below) x y ≡ has below x y
gone_above t b x y band below rows from =
    has-append band below x y
    ∙ ap (λ (v : Bool). v || has below x y) (has-above b band x y (Each-weaker (HasRows t b) (EndsBy b) (λ s at. omega (arith, at.to_bottom)) band rows) from)

stretch_parts : (r : Rectangle) (others below : List Rectangle) (top : ℕ) → IsSorted (r ∷ (others ++ below)) → r.y ≤ top → top < r.y + r.h
    → BandFacts r.y (r.y + r.h) (r ∷ others) below → IsStretch (r ∷ (others ++ below)) top (r.y + r.h) (r ∷ others) below
stretch_parts r others below top sorted from until facts =
    let band = r ∷ others in
    let bottom = r.y + r.h in
    let sized = Each-front IsRectangle band below sorted.sized in
    let ordered = IsOrdered-front band below sorted.ordered in
    let sized_below = Each-back IsRectangle band below sorted.sized in
    let near = Each-weaker (HasRows r.y bottom) (λ (s : Rectangle). bottom ≤ s.y + s.h) (λ s at. omega (arith, at.to_bottom)) band facts.rows in
    let far = Each-weaker (λ (s : Rectangle). bottom ≤ s.y) (λ (s : Rectangle). bottom ≤ s.y + s.h) (λ s. ends_sorted s bottom) below facts.lower in
    record {
      down = until;
      limit = sorted.sized.0.down;
      runs = record { sized = sized; gaps = Gaps-band r.y bottom band sized facts.rows ordered };
      rows = λ x y start end. band_above r.y bottom x y band below facts.rows facts.lower (omega arith) end;
      within = Each-append (λ (s : Rectangle). bottom ≤ s.y + s.h) band below near far;
      after = record {
        front = band;
        parts = refl;
        sorted = record { sized = sized_below; ordered = IsOrdered-back band below sorted.ordered };
        reach = Each-both IsRectangle (λ (s : Rectangle). bottom ≤ s.y) (λ (s : Rectangle). bottom < s.y + s.h) (λ s. reaches bottom s) below sized_below facts.lower;
        points = λ x y start. gone_above r.y bottom x y band below facts.rows start;
      };
      lower = facts.lower;
    }

stretch_split : (r : Rectangle) (rects band below : List Rectangle) (top : ℕ) → IsSorted (r ∷ rects) → r.y ≤ top → top < r.y + r.h
    → (r ∷ rects) ≡ band ++ below → Each (λ s. s.y ≡ r.y) band → BeginsElsewhere r.y below → IsStretch (r ∷ rects) top (r.y + r.h) band below
stretch_split r rects [] below top sorted from until parts same other =
    absurd (subst (λ (l : List Rectangle). BeginsElsewhere r.y l) (sym parts) other refl)
stretch_split r rects (s ∷ others) below top sorted from until parts same other =
    let first : r ≡ s = cc in
    let rest : rects ≡ others ++ below = cc in
    let named : IsSorted (r ∷ (others ++ below)) = subst (λ (l : List Rectangle). IsSorted (r ∷ l)) rest sorted in
    let made = stretch_parts r others below top named from until (band_facts r others below named same.1 other) in
    subst (λ (l : List Rectangle). IsStretch (r ∷ l) top (r.y + r.h) (s ∷ others) below) (sym rest)
    (subst (λ (t : Rectangle). IsStretch (r ∷ (others ++ below)) top (r.y + r.h) (t ∷ others) below) first made)

pub stretch_band : (r : Rectangle) (rects band below : List Rectangle) (top : ℕ) → IsSorted (r ∷ rects) → r.y ≤ top → Each (λ s. top < s.y + s.h) (r ∷ rects)
    → IsFirstBand r.y (r ∷ rects) band below → IsStretch (r ∷ rects) top (r.y + r.h) band below
stretch_band r rects band below top sorted from reach is = stretch_split r rects band below top sorted from reach.0 is.parts is.same is.other

-- what is left
pub below_on : (rects left next : List Rectangle) (y row : ℕ) → y ≤ row → IsBelow y rects left → IsBelow row left next → IsBelow row rects next
below_on rects left next y row later so_far is = record {
  front = so_far.front ++ is.front;
  parts = so_far.parts ∙ ap (λ (l : List Rectangle). so_far.front ++ l) is.parts ∙ sym (append_assoc so_far.front is.front next);
  sorted = is.sorted;
  reach = is.reach;
  points = λ p q from. so_far.points p q (omega arith) ∙ is.points p q from;
}

pub below_stay : (left : List Rectangle) (bottom row : ℕ) → IsSorted left → row < bottom → Each (λ r. bottom ≤ r.y + r.h) left → IsBelow row left left
below_stay left bottom row sorted high within = record {
  front = [];
  parts = refl;
  sorted = sorted;
  reach = Each-weaker (λ (s : Rectangle). bottom ≤ s.y + s.h) (λ (s : Rectangle). row < s.y + s.h) (λ s h. omega arith) left within;
  points = λ x y from. refl;
}

-- the points of a stretch, combined
pub stretch_rows : (m : Combination) (one other left right band strip below under : List Rectangle) (top first second bottom : ℕ) → bottom ≤ first → bottom ≤ second
    → IsBelow top one left → IsBelow top other right → IsStretch left top first band below → IsStretch right top second strip under
    → (x y : ℕ) → top ≤ y → y < bottom → combined m (has one) (has other) x y ≡ keeps m (columns band x) (columns strip x)
stretch_rows m one other left right band strip below under top first second bottom near close was had is it x y from until =
    let there : has one x y ≡ columns band x = was.points x y from ∙ is.rows x y from (omega arith) in
    let here : has other x y ≡ columns strip x = had.points x y from ∙ it.rows x y from (omega arith) in
    ap (λ (v : Bool). keeps m v (has other x y)) there ∙ ap (keeps m (columns band x)) here

-- the same of a list of which the first item was read
pub stretch_gap_at : (left band : List Rectangle) (r : Rectangle) (top n : ℕ) → IsSorted left → 1 ≤ length left → r ≡ get_or left 0 r → n ≡ r.y → top < n → band ≡ [] → IsStretch left top n band left
stretch_gap_at left band r top n sorted some is at high none =
    let parts = items_from left r some is in
    let named : IsSorted (r ∷ drop 1 left) = subst (λ (l : List Rectangle). IsSorted l) parts sorted in
    let made : IsStretch (r ∷ drop 1 left) top n [] (r ∷ drop 1 left) = subst (λ (k : ℕ). IsStretch (r ∷ drop 1 left) top k [] (r ∷ drop 1 left)) (sym at) (stretch_gap r (drop 1 left) top named (omega arith)) in
    subst (λ (b : List Rectangle). IsStretch left top n b left) (sym none) (subst (λ (l : List Rectangle). IsStretch l top n [] l) (sym parts) made)

pub stretch_band_at : (left band below : List Rectangle) (r : Rectangle) (top t n : ℕ) → IsSorted left → 1 ≤ length left → r ≡ get_or left 0 r → n ≡ r.y + r.h → t ≡ r.y → t ≤ top
    → Each (λ s. top < s.y + s.h) left → IsFirstBand t left band below → IsStretch left top n band below
stretch_band_at left band below r top t n sorted some is at row from reach first =
    let parts = items_from left r some is in
    let named : IsSorted (r ∷ drop 1 left) = subst (λ (l : List Rectangle). IsSorted l) parts sorted in
    let ends : Each (λ s. top < s.y + s.h) (r ∷ drop 1 left) = subst (λ (l : List Rectangle). Each (λ s. top < s.y + s.h) l) parts reach in
    let front : IsFirstBand r.y (r ∷ drop 1 left) band below = subst (λ (k : ℕ). IsFirstBand k (r ∷ drop 1 left) band below) row (subst (λ (l : List Rectangle). IsFirstBand t l band below) parts first) in
    let made : IsStretch (r ∷ drop 1 left) top n band below = subst (λ (k : ℕ). IsStretch (r ∷ drop 1 left) top k band below) (sym at) (stretch_band r (drop 1 left) band below top named (omega arith) ends front) in
    subst (λ (l : List Rectangle). IsStretch l top n band below) (sym parts) made

pub stretch_none_at : (left band : List Rectangle) (top : ℕ) → left ≡ [] → band ≡ [] → top < 4096 → IsStretch left top 4096 band left
stretch_none_at left band top empty none low =
    subst (λ (b : List Rectangle). IsStretch left top 4096 b left) (sym none) (subst (λ (l : List Rectangle). IsStretch l top 4096 [] l) (sym empty) (stretch_none top low))

pub top_first : (rects : List Rectangle) (r : Rectangle) (n : ℕ) → IsSorted rects → 1 ≤ length rects → r ≡ get_or rects 0 r → n ≡ r.y → Each (λ s. n ≤ s.y) rects
top_first rects r n sorted some is at =
    let parts = items_from rects r some is in
    let named : IsSorted (r ∷ drop 1 rects) = subst (λ (l : List Rectangle). IsSorted l) parts sorted in
    let made : Each (λ s. n ≤ s.y) (r ∷ drop 1 rects) = subst (λ (k : ℕ). Each (λ s. k ≤ s.y) (r ∷ drop 1 rects)) (sym at) (begins_sorted r (drop 1 rects) named.ordered) in
    subst (λ (l : List Rectangle). Each (λ s. n ≤ s.y) l) (sym parts) made
