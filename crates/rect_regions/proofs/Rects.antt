-- Lists of rectangles: what holds of each, their order, their points.
use Rattle.std.proofs.Common.{◌≡◌, ℕ, ◌+◌, ◌<◌, ◌≤◌, Bool, true, false, ◌&&◌, ◌||◌, List, [], ◌∷◌, ◌++◌, inl, inr, refl, sym, ap, ◌∙◌, arith}
use Rattle.std.proofs.lemmas.Bool.Decides.{nat_tests}
use Rattle.xp_base.specs.Points.{Rectangle, IsRectangle, is_in}
use Rattle.rect_regions.specs.PointSets.{has, SamePoints}
use Rattle.rect_regions.specs.Bands.{Each, GoesBefore, IsOrdered, BeginsAnew, IsRowBands}
use Rattle.rect_regions.specs.Making.{in_columns, in_rows, columns, HasRows, EndsBy}

pub Each-append : {A : Type 0} (P : A → Type 0) (xs ys : List A) → Each P xs → Each P ys → Each P (xs ++ ys)
Each-append P [] ys p q = q
Each-append P (x ∷ xs) ys p q = (p.0, Each-append P xs ys p.1 q)

pub Each-front : {A : Type 0} (P : A → Type 0) (xs ys : List A) → Each P (xs ++ ys) → Each P xs
Each-front P [] ys p = tt
Each-front P (x ∷ xs) ys p = (p.0, Each-front P xs ys p.1)

pub Each-back : {A : Type 0} (P : A → Type 0) (xs ys : List A) → Each P (xs ++ ys) → Each P ys
Each-back P [] ys p = p
Each-back P (x ∷ xs) ys p = Each-back P xs ys p.1

pub Each-weaker : {A : Type 0} (P Q : A → Type 0) → ((x : A) → P x → Q x) → (xs : List A) → Each P xs → Each Q xs
Each-weaker P Q h [] p = tt
Each-weaker P Q h (x ∷ xs) p = (h x p.0, Each-weaker P Q h xs p.1)

-- what follows from two facts of each
pub Each-both : {A : Type 0} (P Q R : A → Type 0) → ((x : A) → P x → Q x → R x) → (xs : List A) → Each P xs → Each Q xs → Each R xs
Each-both P Q R h [] p q = tt
Each-both P Q R h (x ∷ xs) p q = (h x p.0 q.0, Each-both P Q R h xs p.1 q.1)

pub or-assoc : (a b c : Bool) → (a || (b || c)) ≡ ((a || b) || c)
or-assoc true b c = refl
or-assoc false b c = refl

pub has-append : (xs ys : List Rectangle) (x y : ℕ) → has (xs ++ ys) x y ≡ (has xs x y || has ys x y)
has-append [] ys x y = refl
has-append (r ∷ xs) ys x y = ap (λ (b : Bool). is_in r x y || b) (has-append xs ys x y) ∙ or-assoc (is_in r x y) (has xs x y) (has ys x y)

pub columns-append : (xs ys : List Rectangle) (x : ℕ) → columns (xs ++ ys) x ≡ (columns xs x || columns ys x)
columns-append [] ys x = refl
columns-append (r ∷ xs) ys x = ap (λ (b : Bool). in_columns r x || b) (columns-append xs ys x) ∙ or-assoc (in_columns r x) (columns xs x) (columns ys x)

pub IsOrdered-append : (xs ys : List Rectangle) → IsOrdered xs → IsOrdered ys → Each (λ r. Each (GoesBefore r) ys) xs → IsOrdered (xs ++ ys)
IsOrdered-append [] ys p q between = q
IsOrdered-append (r ∷ xs) ys p q between = (Each-append (GoesBefore r) xs ys p.0 between.0, IsOrdered-append xs ys p.1 q between.1)

pub IsOrdered-front : (xs ys : List Rectangle) → IsOrdered (xs ++ ys) → IsOrdered xs
IsOrdered-front [] ys p = tt
IsOrdered-front (r ∷ xs) ys p = (Each-front (GoesBefore r) xs ys p.0, IsOrdered-front xs ys p.1)

pub IsOrdered-back : (xs ys : List Rectangle) → IsOrdered (xs ++ ys) → IsOrdered ys
IsOrdered-back [] ys p = p
IsOrdered-back (r ∷ xs) ys p = IsOrdered-back xs ys p.1

-- what ends by a row goes before what begins there or below
pub before_by_row : (row : ℕ) (xs ys : List Rectangle) → Each (EndsBy row) xs → Each (λ s. row ≤ s.y) ys → Each (λ r. Each (GoesBefore r) ys) xs
before_by_row row xs ys ends begins =
    let over : (r : Rectangle) → EndsBy row r → Each (GoesBefore r) ys =
    λ r end. let one : (s : Rectangle) → row ≤ s.y → GoesBefore r s = λ s begin. inr (omega arith) in
    Each-weaker (λ (s : Rectangle). row ≤ s.y) (GoesBefore r) one ys begins in
    Each-weaker (EndsBy row) (λ r. Each (GoesBefore r) ys) over xs ends

-- no rectangle that ends by a row has a point there or below
not_in_above : (r : Rectangle) (row x y : ℕ) → EndsBy row r → row ≤ y → is_in r x y ≡ false
not_in_above r row x y end low = grind (arith, nat_tests)

pub has-above : (row : ℕ) (xs : List Rectangle) (x y : ℕ) → Each (EndsBy row) xs → row ≤ y → has xs x y ≡ false
has-above row [] x y ends low = refl
has-above row (r ∷ xs) x y ends low = rw (not_in_above r row x y ends.0 low) (has-above row xs x y ends.1 low)

-- nor one that begins at a row or below a point above it
not_in_below : (r : Rectangle) (row x y : ℕ) → row ≤ r.y → y < row → is_in r x y ≡ false
not_in_below r row x y begin high = grind (arith, nat_tests)

pub has-below : (row : ℕ) (xs : List Rectangle) (x y : ℕ) → Each (λ r. row ≤ r.y) xs → y < row → has xs x y ≡ false
has-below row [] x y begins high = refl
has-below row (r ∷ xs) x y begins high = rw (not_in_below r row x y begins.0 high) (has-below row xs x y begins.1 high)

-- the points of rectangles that have the same rows
in_same_rows : (r : Rectangle) (top bottom x y : ℕ) → HasRows top bottom r → is_in r x y ≡ (in_columns r x && in_rows top bottom y)
in_same_rows r top bottom x y rows = grind (arith, nat_tests, rows.from_top, rows.to_bottom)

or-and : (a b c : Bool) → ((a && c) || (b && c)) ≡ ((a || b) && c)
or-and true true true = refl
or-and true true false = refl
or-and true false true = refl
or-and true false false = refl
or-and false b c = refl

pub has-band : (top bottom : ℕ) (band : List Rectangle) (x y : ℕ) → Each (HasRows top bottom) band → has band x y ≡ (columns band x && in_rows top bottom y)
has-band top bottom [] x y rows = refl
has-band top bottom (r ∷ band) x y rows =
    ap (λ (b : Bool). b || has band x y) (in_same_rows r top bottom x y rows.0)
    ∙ ap (λ (b : Bool). (in_columns r x && in_rows top bottom y) || b) (has-band top bottom band x y rows.1)
    ∙ or-and (in_columns r x) (columns band x) (in_rows top bottom y)

-- columns left of all, and right of all
not_column_left : (r : Rectangle) (low x : ℕ) → low ≤ r.x → x < low → in_columns r x ≡ false
not_column_left r low x begin left = grind (arith, nat_tests)

pub columns-left : (low : ℕ) (xs : List Rectangle) (x : ℕ) → Each (λ r. low ≤ r.x) xs → x < low → columns xs x ≡ false
columns-left low [] x begins left = refl
columns-left low (r ∷ xs) x begins left = rw (not_column_left r low x begins.0 left) (columns-left low xs x begins.1 left)

not_column_right : (r : Rectangle) (limit x : ℕ) → r.x + r.w ≤ limit → limit ≤ x → in_columns r x ≡ false
not_column_right r limit x end right = grind (arith, nat_tests)

pub columns-right : (limit : ℕ) (xs : List Rectangle) (x : ℕ) → Each (λ r. r.x + r.w ≤ limit) xs → limit ≤ x → columns xs x ≡ false
columns-right limit [] x ends right = refl
columns-right limit (r ∷ xs) x ends right = rw (not_column_right r limit x ends.0 right) (columns-right limit xs x ends.1 right)

-- in a band the others begin right of a gap
gap_in_band : (top bottom : ℕ) (r s : Rectangle) → HasRows top bottom r → IsRectangle r → HasRows top bottom s → GoesBefore r s → r.x + r.w < s.x
gap_in_band top bottom r s at sized there (inl left) = left.2
gap_in_band top bottom r s at sized there (inr above) = absurd (omega (arith, at.from_top, at.to_bottom, sized.high, there.from_top))

pub gaps : (top bottom : ℕ) (r : Rectangle) (band : List Rectangle) → HasRows top bottom r → IsRectangle r → Each (HasRows top bottom) band → Each (GoesBefore r) band → Each (λ s. r.x + r.w < s.x) band
gaps top bottom r band at sized rows before =
    Each-both (HasRows top bottom) (GoesBefore r) (λ s. r.x + r.w < s.x) (λ s. gap_in_band top bottom r s at sized) band rows before

-- a list is the row-band list of each set with the same points
joined_at : (one other : ℕ → ℕ → Bool) → SamePoints one other → (r : Rectangle) → BeginsAnew one r → BeginsAnew other r
joined_at one other same r anew above next equal = anew above next (λ x. same x above ∙ equal x ∙ sym (same x r.y))

pub IsRowBands-same : (one other : ℕ → ℕ → Bool) (rects : List Rectangle) → SamePoints one other → IsRowBands one rects → IsRowBands other rects
IsRowBands-same one other rects same is = record {
  sized = is.sized;
  ordered = is.ordered;
  joined = Each-weaker (BeginsAnew one) (BeginsAnew other) (joined_at one other same) rects is.joined;
  points = λ x y. is.points x y ∙ same x y;
}
