-- Runs of a row.
use Rattle.std.proofs.Common.{◌≡◌, ℕ, suc, length, ◌+◌, ◌<◌, ◌≤◌, ◌==◌, Bool, true, false, ◌&&◌, ◌||◌, List, [], ◌∷◌, inl, inr, refl, sym, ap, ◌∙◌, arith}
use Rattle.std.proofs.lemmas.Bool.Decides.{nat_tests}
use Rattle.std.proofs.lemmas.Bool.{and_parts, cases_lt}
use Rattle.xp_base.specs.Points.{Rectangle, IsRectangle}
use Rattle.rect_regions.specs.Bands.{Each, IsOrdered}
use Rattle.rect_regions.specs.Making.{in_columns, columns, same_runs, HasRows, Gaps}
use Rattle.rect_regions.proofs.Rects.{Each-weaker, columns-left, gaps}

-- the same runs have the same columns
same_columns : (r s : Rectangle) (x : ℕ) → ((r.x == s.x) && (r.w == s.w)) ≡ true → in_columns r x ≡ in_columns s x
same_columns r s x same = grind (arith, nat_tests)

pub columns-same_runs : (one other : List Rectangle) (x : ℕ) → same_runs one other ≡ true → columns one x ≡ columns other x
columns-same_runs [] [] x same = refl
columns-same_runs [] (s ∷ other) x same = cc
columns-same_runs (r ∷ one) [] x same = cc
columns-same_runs (r ∷ one) (s ∷ other) x same =
    let parts = and_parts _ _ same in
    ap (λ (b : Bool). b || columns one x) (same_columns r s x parts.0) ∙ ap (λ (b : Bool). in_columns s x || b) (columns-same_runs one other x parts.1)

-- a band has gaps
pub Gaps-band : (top bottom : ℕ) (band : List Rectangle) → Each IsRectangle band → Each (HasRows top bottom) band → IsOrdered band → Gaps band
Gaps-band top bottom [] sized rows ordered = tt
Gaps-band top bottom (r ∷ band) sized rows ordered =
    (sized.0.wide, gaps top bottom r band rows.0 sized.0 rows.1 ordered.0, Gaps-band top bottom band sized.1 rows.1 ordered.1)

pub first_column : (r : Rectangle) (rest : Bool) → 1 ≤ r.w → (in_columns r r.x || rest) ≡ true
first_column r rest wide = grind (arith, nat_tests)

-- what begins behind a rectangle has none of its columns
pub past_gap : (r : Rectangle) (rects : List Rectangle) (x : ℕ) → Each (λ s. r.x + r.w < s.x) rects → x ≤ r.x + r.w → columns rects x ≡ false
past_gap r rects x after near =
    columns-left (r.x + r.w + 1) rects x (Each-weaker (λ (s : Rectangle). r.x + r.w < s.x) (λ (s : Rectangle). r.x + r.w + 1 ≤ s.x) (λ s h. omega arith) rects after) (omega arith)

-- lists of other lengths have not the same runs
and_false : (b c : Bool) → c ≡ false → (b && c) ≡ false
and_false true c h = h
and_false false c h = refl

pub same_runs-length : (one other : List Rectangle) → (length one ≡ length other → ⊥) → same_runs one other ≡ false
same_runs-length [] [] differ = absurd (differ refl)
same_runs-length [] (s ∷ other) differ = refl
same_runs-length (r ∷ one) [] differ = refl
same_runs-length (r ∷ one) (s ∷ other) differ = and_false _ _ (same_runs-length one other (λ e. differ (ap suc e)))

-- a column left of a rectangle and of those behind it
left_of_all : (s : Rectangle) (other : List Rectangle) (x : ℕ) → Each (λ t. s.x + s.w < t.x) other → x < s.x → columns (s ∷ other) x ≡ false
left_of_all s other x after left = columns-left s.x (s ∷ other) x (omega arith, Each-weaker (λ (t : Rectangle). s.x + s.w < t.x) (λ (t : Rectangle). s.x ≤ t.x) (λ t h. omega arith) other after) left

-- the first of the runs begins where that of others with the same columns does, or right of it
begins_by : (r s : Rectangle) (one other : List Rectangle) → 1 ≤ r.w → Each (λ t. s.x + s.w < t.x) other
    → columns (r ∷ one) r.x ≡ columns (s ∷ other) r.x → s.x ≤ r.x
begins_by r s one other wide after same = elim (cases_lt r.x s.x) [
  | inl left ↦ let is = first_column r (columns one r.x) wide in let other_is = left_of_all s other r.x after left in cc
  | inr within ↦ within
]

-- and ends there too, or left of it
ends_by : (r s : Rectangle) (one other : List Rectangle) → r.x ≡ s.x → Each (λ t. r.x + r.w < t.x) one
    → columns (r ∷ one) (r.x + r.w) ≡ columns (s ∷ other) (r.x + r.w) → s.w ≤ r.w
ends_by r s one other begin after same = elim (cases_lt r.w s.w) [
  | inl longer ↦
      let past = past_gap r one (r.x + r.w) after (omega arith) in
      let out : in_columns r (r.x + r.w) ≡ false = grind (arith, nat_tests) in
      let inside : in_columns s (r.x + r.w) ≡ true = grind (arith, nat_tests) in
      let left : columns (r ∷ one) (r.x + r.w) ≡ false = rw out past in
      let right : columns (s ∷ other) (r.x + r.w) ≡ true = rw inside refl in
      cc
  | inr within ↦ within
]

not_in_both : (a b : Bool) → a ≡ false → (a || b) ≡ b
not_in_both true b h = cc
not_in_both false b h = refl

-- what stands behind the first runs
rest_same : (r s : Rectangle) (one other : List Rectangle) (x : ℕ) → r.x ≡ s.x → r.w ≡ s.w → Each (λ t. r.x + r.w < t.x) one → Each (λ t. s.x + s.w < t.x) other
    → columns (r ∷ one) x ≡ columns (s ∷ other) x → columns one x ≡ columns other x
rest_same r s one other x begin wide after later same = elim (cases_lt (r.x + r.w) x) [
  | inl past ↦
      let out : in_columns r x ≡ false = grind (arith, nat_tests) in
      let out_too : in_columns s x ≡ false = grind (arith, nat_tests) in
      sym (not_in_both _ _ out) ∙ same ∙ not_in_both _ _ out_too
  | inr near ↦ past_gap r one x after near ∙ sym (past_gap s other x later (omega arith))
]

same_first : (r s : Rectangle) → r.x ≡ s.x → r.w ≡ s.w → ((r.x == s.x) && (r.w == s.w)) ≡ true
same_first r s begin wide = grind (arith, nat_tests)

-- the same columns are those of the same runs
pub same_runs-columns : (one other : List Rectangle) → Gaps one → Gaps other → ((x : ℕ) → columns one x ≡ columns other x) → same_runs one other ≡ true
same_runs-columns [] [] p q same = refl
same_runs-columns [] (s ∷ other) p q same = let is = first_column s (columns other s.x) q.0 in let none = same s.x in cc
same_runs-columns (r ∷ one) [] p q same = let is = first_column r (columns one r.x) p.0 in let none = same r.x in cc
same_runs-columns (r ∷ one) (s ∷ other) p q same =
    let left : s.x ≤ r.x = begins_by r s one other p.0 q.1 (same r.x) in
    let right : r.x ≤ s.x = begins_by s r other one q.0 p.1 (sym (same s.x)) in
    let begin : r.x ≡ s.x = omega arith in
    let short : s.w ≤ r.w = ends_by r s one other begin p.1 (same (r.x + r.w)) in
    let long : r.w ≤ s.w = ends_by s r other one (sym begin) q.1 (sym (same (s.x + s.w))) in
    let wide : r.w ≡ s.w = omega arith in
    let rest = same_runs-columns one other p.2 q.2 (λ x. rest_same r s one other x begin wide p.1 q.1 (same x)) in
    rw (same_first r s begin wide) rest
