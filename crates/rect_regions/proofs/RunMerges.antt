-- Bands gone over from left to right.
use Rattle.std.proofs.Common.{◌≡◌, ℕ, zero, suc, ◌+◌, ◌<◌, ◌≤◌, Bool, true, false, ◌&&◌, ◌||◌, List, [], ◌∷◌, length, drop, get_or, inl, inr, refl, sym, ap, subst, ◌∙◌, arith}
use Rattle.std.proofs.lemmas.Bool.Decides.{nat_tests}
use Rattle.std.proofs.lemmas.Bool.{cases_lt}
use Rattle.xp_base.specs.Points.{Rectangle}
use Rattle.rect_regions.specs.declared.combination.Combination.{Combination}
use Rattle.rect_regions.specs.declared.combination.Combination.TheVariants as C
use Rattle.rect_regions.specs.Bands.{Each}
use Rattle.rect_regions.specs.Combinations.{keeps, limit_of}
use Rattle.rect_regions.specs.Making.{in_columns, columns, Gaps}
use Rattle.rect_regions.specs.Sweeping.{IsRuns, IsRightOf, IsRun}
use Rattle.rect_regions.proofs.Rects.{Each-weaker, columns-left, columns-right}

-- a list and its first item
pub first_and_rest : (xs : List Rectangle) (d : Rectangle) → 1 ≤ length xs → xs ≡ get_or xs 0 d ∷ drop 1 xs
first_and_rest [] d some = absurd (omega arith)
first_and_rest (x ∷ xs) d some = refl

pub items_from : (xs : List Rectangle) (r : Rectangle) → 1 ≤ length xs → r ≡ get_or xs 0 r → xs ≡ r ∷ drop 1 xs
items_from xs r some is = first_and_rest xs r some ∙ ap (λ (t : Rectangle). t ∷ drop 1 xs) (sym is)

-- what is kept of nothing
pub keeps_none : (c : Combination) → keeps c false false ≡ false
keeps_none C.Union = refl
keeps_none C.Difference = refl
keeps_none C.Overlap = refl

pub limit_past : (c : Combination) (one other x : ℕ) (p q : Bool) → (one ≤ x → p ≡ false) → (other ≤ x → q ≡ false) → limit_of c one other ≤ x → keeps c p q ≡ false
limit_past C.Union one other x p q first second past = let off = first (omega arith) in let out = second (omega arith) in rw (off, out) refl
limit_past C.Difference one other x p q first second past = let off = first past in rw off refl
limit_past C.Overlap one other x p q first second past = elim (cases_lt x one) [
  | inl low ↦ let out = second (omega arith) in rw out (and_off p)
  | inr high ↦ let off = first high in rw off refl
]
  where
    and_off : (b : Bool) → (b && false) ≡ false
    and_off true = refl
    and_off false = refl

pub limit_of-within : (c : Combination) (one other limit : ℕ) → one ≤ limit → other ≤ limit → limit_of c one other ≤ limit
limit_of-within C.Union one other limit first second = omega arith
limit_of-within C.Difference one other limit first second = first
limit_of-within C.Overlap one other limit first second = omega arith

-- the last of the runs ends behind the others
pub ends_by_last : (band : List Rectangle) (k : ℕ) (d : Rectangle) → IsRuns band → k < length band → length band ≤ k + 1
    → Each (λ r. r.x + r.w ≤ (get_or band k d).x + (get_or band k d).w) band
ends_by_last [] k d runs low all = absurd (omega arith)
ends_by_last (r ∷ []) zero d runs low all = (omega arith, tt)
ends_by_last (r ∷ []) (suc k) d runs low all = absurd (omega arith)
ends_by_last (r ∷ (s ∷ band)) zero d runs low all = absurd (omega arith)
ends_by_last (r ∷ (s ∷ band)) (suc k) d runs low all =
    let rest = ends_by_last (s ∷ band) k d (record { sized = runs.sized.1; gaps = runs.gaps.2 }) (omega arith) (omega arith) in
    (omega (arith, runs.gaps.1.0, rest.0), rest)

-- whether the band has a column, and how far
pub run_none : (x : ℕ) → x < 4096 → IsRun [] x false 4096
run_none x low = record { right = low; limit = omega arith; same = λ c from until. refl; within = tt }

gap_after : (r : Rectangle) (band : List Rectangle) (Q : Rectangle → Type 0) → ((s : Rectangle) → r.x + r.w < s.x → Q s) → Gaps (r ∷ band) → Each Q band
gap_after r band Q h gaps = Each-weaker (λ (s : Rectangle). r.x + r.w < s.x) Q h band gaps.1

pub run_gap : (r : Rectangle) (band : List Rectangle) (x : ℕ) → IsRuns (r ∷ band) → x < r.x → IsRun (r ∷ band) x false r.x
run_gap r band x runs left =
    let begins = gap_after r band (λ s. r.x ≤ s.x) (λ s h. omega arith) runs.gaps in
    record {
      right = left;
      limit = omega (arith, runs.sized.0.across);
      same = λ c from until. columns-left r.x (r ∷ band) c (omega arith, begins) until;
      within = (omega arith, gap_after r band (λ s. r.x ≤ s.x + s.w) (λ s h. omega arith) runs.gaps);
    }

in_first : (r : Rectangle) (rest : Bool) (c : ℕ) → r.x ≤ c → c < r.x + r.w → (in_columns r c || rest) ≡ true
in_first r rest c from until = grind (arith, nat_tests)

pub run_on : (r : Rectangle) (band : List Rectangle) (x : ℕ) → IsRuns (r ∷ band) → r.x ≤ x → x < r.x + r.w → IsRun (r ∷ band) x true (r.x + r.w)
run_on r band x runs from until = record {
  right = until;
  limit = runs.sized.0.across;
  same = λ c begin end. in_first r (columns band c) c (omega arith) end;
  within = (omega arith, gap_after r band (λ s. r.x + r.w ≤ s.x + s.w) (λ s h. omega arith) runs.gaps);
}

-- what of the band reaches beyond a column
pub right_none : (x : ℕ) → IsRightOf x [] []
right_none x = record { runs = record { sized = tt; gaps = tt }; reach = tt; same = λ c from. refl }

pub right_stay : (r : Rectangle) (band : List Rectangle) (x : ℕ) → IsRuns (r ∷ band) → x < r.x + r.w → IsRightOf x (r ∷ band) (r ∷ band)
right_stay r band x runs within = record {
  runs = runs;
  reach = (within, gap_after r band (λ s. x < s.x + s.w) (λ s h. omega arith) runs.gaps);
  same = λ c from. refl;
}

out_of_first : (r : Rectangle) (c : ℕ) → r.x + r.w ≤ c → in_columns r c ≡ false
out_of_first r c from = grind (arith, nat_tests)

pub none_or : (a b : Bool) → a ≡ false → (a || b) ≡ b
none_or true b h = cc
none_or false b h = refl

pub right_next : (r : Rectangle) (band : List Rectangle) (x : ℕ) → IsRuns (r ∷ band) → x ≡ r.x + r.w → IsRightOf x (r ∷ band) band
right_next r band x runs at = record {
  runs = record { sized = runs.sized.1; gaps = runs.gaps.2 };
  reach = gap_after r band (λ s. x < s.x + s.w) (λ s h. omega arith) runs.gaps;
  same = λ c from. none_or _ _ (out_of_first r c (omega arith));
}

pub right_begin : (band : List Rectangle) → IsRuns band → IsRightOf 0 band band
right_begin [] runs = right_none 0
right_begin (r ∷ band) runs = right_stay r band 0 runs (omega (arith, runs.sized.0.wide))

pub right_on : (band left next : List Rectangle) (x until : ℕ) → x ≤ until → IsRightOf x band left → IsRightOf until left next → IsRightOf until band next
right_on band left next x until later so_far is = record {
  runs = is.runs;
  reach = is.reach;
  same = λ c from. so_far.same c (omega arith) ∙ is.same c from;
}

-- as far as the nearer end nothing changes
pub run_within : (left : List Rectangle) (until limit : ℕ) → until ≤ limit → Each (λ r. limit ≤ r.x + r.w) left → Each (λ r. until ≤ r.x + r.w) left
run_within left until limit near within = Each-weaker (λ (r : Rectangle). limit ≤ r.x + r.w) (λ (r : Rectangle). until ≤ r.x + r.w) (λ r h. omega arith) left within

pub run_row : (m : Combination) (one other left right : List Rectangle) (x end limit until : ℕ) (p q b : Bool) → until ≤ end → until ≤ limit
    → IsRightOf x one left → IsRightOf x other right → IsRun left x p end → IsRun right x q limit → keeps m p q ≡ b
    → (c : ℕ) → x ≤ c → c < until → keeps m (columns one c) (columns other c) ≡ b
run_row m one other left right x end limit until p q b near close first second is it kept c from within =
    let there : columns one c ≡ p = first.same c from ∙ is.same c from (omega arith) in
    let here : columns other c ≡ q = second.same c from ∙ it.same c from (omega arith) in
    ap (λ (v : Bool). keeps m v (columns other c)) there ∙ ap (keeps m p) here ∙ kept

-- behind the limit nothing is kept
pub row_past : (m : Combination) (one other : List Rectangle) (first second x c : ℕ) → Each (λ r. r.x + r.w ≤ first) one → Each (λ r. r.x + r.w ≤ second) other
    → limit_of m first second ≤ x → x ≤ c → keeps m (columns one c) (columns other c) ≡ false
row_past m one other first second x c ends end past from =
    limit_past m first second c (columns one c) (columns other c) (λ h. columns-right first one c ends h) (λ h. columns-right second other c end h) (omega arith)

-- the same of a list of which the first item was read
pub run_gap_at : (left : List Rectangle) (r : Rectangle) (x n : ℕ) → IsRuns left → 1 ≤ length left → r ≡ get_or left 0 r → n ≡ r.x → x < n → IsRun left x false n
run_gap_at left r x n runs some is at low =
    let parts = items_from left r some is in
    let named : IsRuns (r ∷ drop 1 left) = subst (λ (l : List Rectangle). IsRuns l) parts runs in
    let made : IsRun (r ∷ drop 1 left) x false n = subst (λ (k : ℕ). IsRun (r ∷ drop 1 left) x false k) (sym at) (run_gap r (drop 1 left) x named (omega arith)) in
    subst (λ (l : List Rectangle). IsRun l x false n) (sym parts) made

pub run_on_at : (left : List Rectangle) (r : Rectangle) (x n : ℕ) → IsRuns left → 1 ≤ length left → r ≡ get_or left 0 r → n ≡ r.x + r.w → r.x ≤ x
    → Each (λ s. x < s.x + s.w) left → IsRun left x true n
run_on_at left r x n runs some is at from reach =
    let parts = items_from left r some is in
    let named : IsRuns (r ∷ drop 1 left) = subst (λ (l : List Rectangle). IsRuns l) parts runs in
    let ends : Each (λ s. x < s.x + s.w) (r ∷ drop 1 left) = subst (λ (l : List Rectangle). Each (λ s. x < s.x + s.w) l) parts reach in
    let made : IsRun (r ∷ drop 1 left) x true n = subst (λ (k : ℕ). IsRun (r ∷ drop 1 left) x true k) (sym at) (run_on r (drop 1 left) x named from ends.0) in
    subst (λ (l : List Rectangle). IsRun l x true n) (sym parts) made

pub right_stay_at : (left : List Rectangle) (r : Rectangle) (x : ℕ) → IsRuns left → 1 ≤ length left → r ≡ get_or left 0 r → x < r.x + r.w → IsRightOf x left left
right_stay_at left r x runs some is low =
    let parts = items_from left r some is in
    let named : IsRuns (r ∷ drop 1 left) = subst (λ (l : List Rectangle). IsRuns l) parts runs in
    subst (λ (l : List Rectangle). IsRightOf x l l) (sym parts) (right_stay r (drop 1 left) x named low)

pub right_next_at : (left others : List Rectangle) (r : Rectangle) (x : ℕ) → IsRuns left → 1 ≤ length left → r ≡ get_or left 0 r → others ≡ drop 1 left → r.x + r.w ≤ x
    → Each (λ s. x ≤ s.x + s.w) left → IsRightOf x left others
right_next_at left others r x runs some is rest past reach =
    let parts = items_from left r some is in
    let named : IsRuns (r ∷ drop 1 left) = subst (λ (l : List Rectangle). IsRuns l) parts runs in
    let ends : Each (λ s. x ≤ s.x + s.w) (r ∷ drop 1 left) = subst (λ (l : List Rectangle). Each (λ s. x ≤ s.x + s.w) l) parts reach in
    let near = ends.0 in
    let made : IsRightOf x (r ∷ drop 1 left) others = subst (λ (l : List Rectangle). IsRightOf x (r ∷ drop 1 left) l) (sym rest) (right_next r (drop 1 left) x named (omega arith)) in
    subst (λ (l : List Rectangle). IsRightOf x l others) (sym parts) made
