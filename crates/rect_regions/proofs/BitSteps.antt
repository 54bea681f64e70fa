-- The points of rows of bits up to a place.
use Rattle.std.proofs.Common.{◌≡◌, ℕ, ◌+◌, ◌*◌, ◌/◌, ◌%◌, ◌<◌, ◌≤◌, Bool, true, false, ◌&&◌, ◌||◌, inl, inr, refl, sym, ap, ◌∙◌, arith, ltb}
use Rattle.std.proofs.lemmas.Bool.Decides.{nat_tests}
use Rattle.std.proofs.lemmas.Bool.{cases_Bool, and_parts, ltb-true}
use Rattle.std.proofs.lemmas.Nat.{mul-add-lt, div-mul-add, mod-mul-add, div-add-mod'}
use Rattle.xp_base.specs.Points.{Rectangle, is_in}
use Rattle.xp_base.specs.Grid.{place_of}
use Rattle.rect_regions.specs.BitRows.{BitRows, has_mark}
use Rattle.rect_regions.proofs.Marks.{mark_within}

-- the marks at the first places
abbrev pub marks_below : BitRows → ℕ → ℕ → ℕ → Bool
marks_below b k x y = has_mark b x y && ltb (place_of b.wide x y) k

abbrev pub point_at : ℕ → ℕ → Rectangle
point_at wide k = record { x = k % wide; y = k / wide; w = 1; h = 1 }

-- a rectangle of one point has that point alone
one_column : (p q x y : ℕ) → is_in (record { x = p; y = q; w = 1; h = 1 }) x y ≡ true → x ≡ p
one_column p q x y there = grind (arith, nat_tests)

one_row : (p q x y : ℕ) → is_in (record { x = p; y = q; w = 1; h = 1 }) x y ≡ true → y ≡ q
one_row p q x y there = grind (arith, nat_tests)

one_there : (p q x y : ℕ) → x ≡ p → y ≡ q → is_in (record { x = p; y = q; w = 1; h = 1 }) x y ≡ true
one_there p q x y column row = grind (arith, nat_tests)

-- a point stands at its place
in_point : (wide k x y : ℕ) → is_in (point_at wide k) x y ≡ true → place_of wide x y ≡ k
in_point wide k x y there =
    let column = one_column (k % wide) (k / wide) x y there in
    let row = one_row (k % wide) (k / wide) x y there in
    ap (λ (n : ℕ). n * wide + x) row ∙ ap (λ (n : ℕ). k / wide * wide + n) column ∙ div-add-mod' k wide

point_in : (wide k x y : ℕ) → x < wide → place_of wide x y ≡ k → is_in (point_at wide k) x y ≡ true
point_in wide k x y across at =
    let column : k % wide ≡ x = ap (λ (n : ℕ). n % wide) (sym at) ∙ mod-mul-add y wide x across in
    let row : k / wide ≡ y = ap (λ (n : ℕ). n / wide) (sym at) ∙ div-mul-add y wide x across in
    one_there (k % wide) (k / wide) x y (sym column) (sym row)

at_place : (c : Bool) (p k : ℕ) → c ≡ true → p ≡ k → (c && ltb p (k + 1)) ≡ true
at_place c p k on at = grind (arith, nat_tests)

before_end : (p k : ℕ) → p < k → ltb p k ≡ true
before_end p k low = grind (arith, nat_tests)

mark_across : (b : BitRows) (x y : ℕ) → has_mark b x y ≡ true → x < b.wide
mark_across b x y there = ltb-true x b.wide (and_parts _ _ (mark_within b x y there)).0

places_more : (p k : ℕ) → (p ≡ k → ⊥) → ltb p k ≡ ltb p (k + 1)
places_more p k other = grind (arith, nat_tests)

-- the next place has a mark
pub marks_on : (b : BitRows) (k x y : ℕ) → 1 ≤ b.wide → has_mark b (k % b.wide) (k / b.wide) ≡ true → marks_below b (k + 1) x y ≡ (marks_below b k x y || is_in (point_at b.wide k) x y)
marks_on b k x y some on = elim (cases_Bool (is_in (point_at b.wide k) x y)) [
  | inl there ↦
      let column = one_column (k % b.wide) (k / b.wide) x y there in
      let row = one_row (k % b.wide) (k / b.wide) x y there in
      let at = in_point b.wide k x y there in
      let mark : has_mark b x y ≡ true = ap (λ (n : ℕ). has_mark b n y) column ∙ ap (λ (n : ℕ). has_mark b (k % b.wide) n) row ∙ on in
      let below : marks_below b (k + 1) x y ≡ true = at_place (has_mark b x y) (place_of b.wide x y) k mark at in
      below ∙ sym (ap (λ (c : Bool). marks_below b k x y || c) there ∙ or_true (marks_below b k x y))
  | inr absent ↦
      let same : marks_below b (k + 1) x y ≡ marks_below b k x y = elim (cases_Bool (has_mark b x y)) [
        | inl mark ↦
            let across = mark_across b x y mark in
            let other : place_of b.wide x y ≡ k → ⊥ = λ at. let there = point_in b.wide k x y across at in cc in
            ap (λ (c : Bool). has_mark b x y && c) (sym (places_more (place_of b.wide x y) k other))
        | inr none ↦ ap (λ (c : Bool). c && ltb (place_of b.wide x y) (k + 1)) none ∙ sym (ap (λ (c : Bool). c && ltb (place_of b.wide x y) k) none)
      ] in
      same ∙ sym (ap (λ (c : Bool). marks_below b k x y || c) absent ∙ or_false (marks_below b k x y))
]
  where
    or_true : (c : Bool) → (c || true) ≡ true
    or_true true = refl
    or_true false = refl

    or_false : (c : Bool) → (c || false) ≡ c
    or_false true = refl
    or_false false = refl

-- it has none
pub marks_off : (b : BitRows) (k x y : ℕ) → has_mark b (k % b.wide) (k / b.wide) ≡ false → marks_below b k x y ≡ marks_below b (k + 1) x y
marks_off b k x y off = elim (cases_Bool (has_mark b x y)) [
  | inl mark ↦
      let across = mark_across b x y mark in
      let other : place_of b.wide x y ≡ k → ⊥ =
      λ at. let column : k % b.wide ≡ x = ap (λ (n : ℕ). n % b.wide) (sym at) ∙ mod-mul-add y b.wide x across in
      let row : k / b.wide ≡ y = ap (λ (n : ℕ). n / b.wide) (sym at) ∙ div-mul-add y b.wide x across in
      let there : has_mark b x y ≡ false = sym (ap (λ (n : ℕ). has_mark b n (k / b.wide)) column ∙ ap (has_mark b x) row) ∙ off in cc in
      ap (λ (c : Bool). has_mark b x y && c) (places_more (place_of b.wide x y) k other)
  | inr none ↦ ap (λ (c : Bool). c && ltb (place_of b.wide x y) k) none ∙ sym (ap (λ (c : Bool). c && ltb (place_of b.wide x y) (k + 1)) none)
]

pub marks_none : (b : BitRows) (x y : ℕ) → marks_below b 0 x y ≡ false
marks_none b x y = none_below (has_mark b x y) (place_of b.wide x y)
  where
    none_below : (c : Bool) (p : ℕ) → (c && ltb p 0) ≡ false
    none_below true p = grind (arith, nat_tests)
    none_below false p = refl

pub marks_all : (b : BitRows) (k x y : ℕ) → b.wide * b.high ≤ k → marks_below b k x y ≡ has_mark b x y
marks_all b k x y past = elim (cases_Bool (has_mark b x y)) [
  | inl mark ↦
      let both = and_parts _ _ (mark_within b x y mark) in
      let low : place_of b.wide x y < b.wide * b.high = mul-add-lt y b.wide x b.high (ltb-true y b.high both.1) (ltb-true x b.wide both.0) in
      let there = before_end (place_of b.wide x y) k (omega arith) in
      ap (λ (c : Bool). c && ltb (place_of b.wide x y) k) mark ∙ there ∙ sym mark
  | inr none ↦ ap (λ (c : Bool). c && ltb (place_of b.wide x y) k) none ∙ sym none
]

pub mark_down : (b : BitRows) (x y : ℕ) → has_mark b x y ≡ true → y < b.high
mark_down b x y there = ltb-true y b.high (and_parts _ _ (mark_within b x y there)).1
