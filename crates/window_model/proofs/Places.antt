-- Places in rows of a width, and the run of places that a row of a rectangle is.
use Rattle.std.proofs.Common.{◌≡◌, inl, inr, ℕ, ◌+◌, ◌-◌, ◌*◌, ◌/◌, ◌%◌, ◌<◌, ◌≤◌, zero, suc, Bool, true, false, ◌&&◌, refl, sym, ap, ◌∙◌, subst, arith, cond, eqb, ltb, leb}
use Rattle.std.proofs.Math.Nat.{mul-le-mul_right}
use Rattle.std.proofs.lemmas.Nat.{div-add-mod', mod_below, div-mul-add, mod-mul-add}
use Rattle.std.proofs.lemmas.Bool.{cases_order}
use Rattle.std.proofs.lemmas.Bool.Decides.{nat_tests}
use Rattle.xp_base.specs.Points.{Rectangle}
use Rattle.xp_base.specs.Grid.{place_of, is_place_in}
use Rattle.window_model.specs.Drawing.{place_within, place_without}

-- a later row begins behind
pub later_row : (w q row : ℕ) → q < row → q * w + w ≤ row * w
later_row w q row above = let h : (q + 1) * w ≤ row * w = mul-le-mul_right w (omega arith) in omega (arith, h)

-- a row of a rectangle in the window lies in it
pub run_fits : (w h x n row : ℕ) → row < h → x + n ≤ w → row * w + x + n ≤ w * h
run_fits w h x n row within across =
    let g = later_row w row h within in let e : w * h ≡ h * w = grind arith in omega (arith, g, e)

-- a row has some width where there is a pixel
pub some_width : (w h k : ℕ) → k < w * h → 0 < w
some_width zero h k within = absurd (omega arith)
some_width (suc w) h k within = omega arith

run_plain : (w x n row q m k : ℕ) → k ≡ q * w + m → m < w → x + n ≤ w
    → (leb (row * w + x) k && ltb k (row * w + x + n)) ≡ ((leb x m && ltb m (x + n)) && eqb q row)
run_plain w x n row q m k is within across = elim (cases_order q row) [
  | inl same ↦ let e : q * w ≡ row * w = ap (λ z. z * w) same in grind (arith, nat_tests, e, same)
  | inr other ↦ elim other [
    | inl above ↦ let h = later_row w q row above in grind (arith, nat_tests, h)
    | inr below ↦ let h = later_row w row q below in grind (arith, nat_tests, h)
  ]
]

-- the run of a row is that row of the rectangle
pub run_row : (w x n row k : ℕ) → 0 < w → x + n ≤ w
    → (leb (row * w + x) k && ltb k (row * w + x + n)) ≡ ((leb x (k % w) && ltb (k % w) (x + n)) && eqb (k / w) row)
run_row w x n row k some across = run_plain w x n row (k / w) (k % w) k (sym (div-add-mod' k w)) (mod_below k w some) across

-- in the run of a row, a place has that row and the columns from x on
pub run_row_place : (w x n row k : ℕ) → x + n ≤ w → row * w + x ≤ k → k < row * w + x + n
    → (k / w ≡ row) × (k % w ≡ x + (k - (row * w + x)))
run_row_place w x n row k across from below =
    let j = k - (row * w + x) in
    let is : k ≡ row * w + (x + j) = omega arith in
    let within : x + j < w = omega arith in
    (subst (λ z. z / w ≡ row) (sym is) (div-mul-add row w (x + j) within), subst (λ z. z % w ≡ x + j) (sym is) (mod-mul-add row w (x + j) within))

-- one row more of a filled rectangle
pub one_row : (w : ℕ) (r : Rectangle) (i k : ℕ) → 0 < w → r.x + r.w ≤ w → (was colour : ℕ)
    → cond (leb ((r.y + i) * w + r.x) k && ltb k ((r.y + i) * w + r.x + r.w)) colour (cond (is_place_in w (record r { h = i }) k) colour was)
    ≡ cond (is_place_in w (record r { h = i + 1 }) k) colour was
one_row w r i k some across was colour = rw (run_row w r.x r.w (r.y + i) k some across) (grind (arith, nat_tests))

-- one row more of numbers put in a rectangle
pub one_row_placed : (w : ℕ) (r : Rectangle) (i k : ℕ) → 0 < w → r.x + r.w ≤ w → (was : ℕ) (number : ℕ → ℕ)
    → cond (leb ((r.y + i) * w + r.x) k && ltb k ((r.y + i) * w + r.x + r.w)) (number (i * r.w + (k - ((r.y + i) * w + r.x))))
    (cond (is_place_in w (record r { h = i }) k) (number (place_within w r k)) was)
    ≡ cond (is_place_in w (record r { h = i + 1 }) k) (number (place_within w r k)) was
one_row_placed w r i k some across was number =
    let start = (r.y + i) * w + r.x in
    let here : leb start k && ltb k (start + r.w) ≡ true → number (i * r.w + (k - start)) ≡ number (place_within w r k) =
    λ within.
    let bounds : (start ≤ k) × (k < start + r.w) = grind (arith, nat_tests) in
    let p = run_row_place w r.x r.w (r.y + i) k across bounds.0 bounds.1 in
    let row : k / w - r.y ≡ i = omega (arith, p.0) in
    let column : k % w - r.x ≡ k - start = omega (arith, p.1) in
    ap number (ap (λ z. z * r.w + (k - start)) (sym row) ∙ ap (λ z. (k / w - r.y) * r.w + z) (sym column)) in
    let same : (b : Bool) (one two rest : ℕ) → (b ≡ true → one ≡ two) → cond b one rest ≡ cond b two rest =
    λ b one two rest h. elim b as (λ v. (v ≡ true → one ≡ two) → cond v one rest ≡ cond v two rest) [ true ↦ λ g. g refl | false ↦ λ g. refl ] h in
    same _ _ _ _ here ∙ one_row w r i k some across was (number (place_within w r k))

-- one row more of a cropped rectangle: the first n rows, and the next
pub crop_place : (wide : ℕ) (r : Rectangle) (row k : ℕ) → row * r.w ≤ k → k < row * r.w + r.w
    → place_without wide r k ≡ (r.y + row) * wide + r.x + (k - row * r.w)
crop_place wide r row k from below =
    let j = k - row * r.w in
    let is : k ≡ row * r.w + j = omega arith in
    let within : j < r.w = omega arith in
    let row_is : k / r.w ≡ row = subst (λ z. z / r.w ≡ row) (sym is) (div-mul-add row r.w j within) in
    let column_is : k % r.w ≡ j = subst (λ z. z % r.w ≡ j) (sym is) (mod-mul-add row r.w j within) in
    ap (λ z. place_of wide (r.x + z) (r.y + k / r.w)) column_is ∙ ap (λ z. place_of wide (r.x + j) (r.y + z)) row_is ∙ omega arith

run_start_plain : (w n row q m k : ℕ) → k ≡ q * w + m → m < w → n ≤ w → (leb (row * w) k && ltb k (row * w + n)) ≡ (ltb m n && eqb q row)
run_start_plain w n row q m k is within across = elim (cases_order q row) [
  | inl same ↦ let e : q * w ≡ row * w = ap (λ z. z * w) same in grind (arith, nat_tests, e, same)
  | inr other ↦ elim other [
    | inl above ↦ let h = later_row w q row above in grind (arith, nat_tests, h)
    | inr below ↦ let h = later_row w row q below in grind (arith, nat_tests, h)
  ]
]

-- one row more of those that keep their first n numbers in rows of another width
pub one_row_kept : (w before n i k : ℕ) → 0 < w → n ≤ w → (was : ℕ) (number : ℕ → ℕ)
    → cond (leb (i * w) k && ltb k (i * w + n)) (number (i * before + (k - i * w)))
    (cond (ltb (k % w) n && ltb (k / w) i) (number (place_of before (k % w) (k / w))) was)
    ≡ cond (ltb (k % w) n && ltb (k / w) (i + 1)) (number (place_of before (k % w) (k / w))) was
one_row_kept w before n i k some across was number =
    let here : leb (i * w) k && ltb k (i * w + n) ≡ true → number (i * before + (k - i * w)) ≡ number (place_of before (k % w) (k / w)) =
    λ within.
    let bounds : (i * w ≤ k) × (k < i * w + n) = grind (arith, nat_tests) in
    let j = k - i * w in
    let is : k ≡ i * w + j = omega (arith, bounds.0) in
    let below : j < w = omega (arith, bounds.1) in
    let row : k / w ≡ i = subst (λ z. z / w ≡ i) (sym is) (div-mul-add i w j below) in
    let column : k % w ≡ j = subst (λ z. z % w ≡ j) (sym is) (mod-mul-add i w j below) in
    ap number (ap (λ z. z * before + j) (sym row) ∙ ap (λ z. k / w * before + z) (sym column)) in
    let run = run_start_plain w n i (k / w) (k % w) k (sym (div-add-mod' k w)) (mod_below k w some) across in
    let same : (b : Bool) (one two rest : ℕ) → (b ≡ true → one ≡ two) → cond b one rest ≡ cond b two rest =
    λ b one two rest h. elim b as (λ v. (v ≡ true → one ≡ two) → cond v one rest ≡ cond v two rest) [ true ↦ λ g. g refl | false ↦ λ g. refl ] h in
    same _ _ _ _ here ∙ rw run (grind (arith, nat_tests))

-- no row yet
pub no_row : (m n q number : ℕ) → cond (ltb m n && ltb q 0) number 0 ≡ 0
no_row m n q number = grind (arith, nat_tests)
