-- What drawing makes, place by place.
use Rattle.std.proofs.Common.{◌≡◌, inl, inr, ℕ, ◌+◌, ◌-◌, ◌*◌, ◌/◌, ◌%◌, ◌^◌, ◌<◌, lit<, zero, suc, List, [], ◌∷◌, ◌++◌, length, take, drop, get_or, cond, ltb, min, ◌&&◌, refl, sym, ap, ◌∙◌, append_assoc, arith}
use Rattle.std.proofs.Math.Nat.{suc-mul}
use Rattle.std.proofs.lemmas.Nat.{mod_below}
use Rattle.std.proofs.lemmas.Bool.Decides.{nat_tests}
use Rattle.std.proofs.lemmas.Bool.{cases_lt, cond_both}
use Rattle.std.proofs.lemmas.List.Elements.{All-replicate, All-get_or, All-from_get_or, All-cons, All-nil}
use Rattle.std.specs.List.{All}
use Rattle.std.proofs.lemmas.List.{length-replicate, get_or-replicate, get_or_append_left, get_or-append_right, get_or-take, get_or-drop, get_or_past}
use Rattle.window_model.proofs.Places.{crop_place}
use Rattle.std.proofs.lemmas.List.FromFn.{length-map-range_with_len, get_or-map-range_with_len, fill_by_all}
use Rattle.xp_base.specs.Points.{Rectangle, area, survives}
use Rattle.xp_base.specs.Grid.{is_place_in, place_of}
use Rattle.window_model.specs.Drawing.{blank, filled, placed, cropped, copied, resized, put_at, place_within, place_without}
use Rattle.window_model.specs.Generator.{next_state, colour_of, noise}

pub length-blank : (w h : ℕ) → length (blank w h) ≡ w * h
unfolding blank
length-blank w h = length-replicate {A = ℕ} (w * h) 0

pub get_or-blank : (w h k : ℕ) → k < w * h → get_or (blank w h) k 0 ≡ 0
unfolding blank
get_or-blank w h k within = get_or-replicate {A = ℕ} (w * h) k 0 0 within

pub length-filled : (wide : ℕ) (r : Rectangle) (colour : ℕ) (pixels : List ℕ) → length (filled wide r colour pixels) ≡ length pixels
unfolding filled
length-filled wide r colour pixels =
    length-map-range_with_len (λ k. cond (is_place_in wide r k) colour (get_or pixels k 0)) 0 (length pixels)

pub get_or-filled : (wide : ℕ) (r : Rectangle) (colour : ℕ) (pixels : List ℕ) (k : ℕ) → k < length pixels
    → get_or (filled wide r colour pixels) k 0 ≡ cond (is_place_in wide r k) colour (get_or pixels k 0)
unfolding filled
get_or-filled wide r colour pixels k within =
    get_or-map-range_with_len (λ k. cond (is_place_in wide r k) colour (get_or pixels k 0)) 0 (length pixels) k k 0 within (omega arith)

-- a list that reads so is the filled one
pub filled_from : (wide : ℕ) (r : Rectangle) (colour : ℕ) (pixels new : List ℕ) → length new ≡ length pixels
    → ((k : ℕ) → k < length pixels → get_or new k 0 ≡ cond (is_place_in wide r k) colour (get_or pixels k 0)) → new ≡ filled wide r colour pixels
unfolding filled
filled_from wide r colour pixels new sized each = fill_by_all _ new (length pixels) 0 sized each

pub length-placed : (wide : ℕ) (r : Rectangle) (numbers pixels : List ℕ) → length (placed wide r numbers pixels) ≡ length pixels
unfolding placed
length-placed wide r numbers pixels =
    length-map-range_with_len (λ k. cond (is_place_in wide r k) (get_or numbers (place_within wide r k) 0) (get_or pixels k 0)) 0 (length pixels)

pub get_or-placed : (wide : ℕ) (r : Rectangle) (numbers pixels : List ℕ) (k : ℕ) → k < length pixels
    → get_or (placed wide r numbers pixels) k 0 ≡ cond (is_place_in wide r k) (get_or numbers (place_within wide r k) 0) (get_or pixels k 0)
unfolding placed
get_or-placed wide r numbers pixels k within =
    get_or-map-range_with_len (λ k. cond (is_place_in wide r k) (get_or numbers (place_within wide r k) 0) (get_or pixels k 0)) 0 (length pixels) k k 0 within (omega arith)

-- a list that reads so is the one put
pub placed_from : (wide : ℕ) (r : Rectangle) (numbers pixels new : List ℕ) → length new ≡ length pixels
    → ((k : ℕ) → k < length pixels → get_or new k 0 ≡ cond (is_place_in wide r k) (get_or numbers (place_within wide r k) 0) (get_or pixels k 0))
    → new ≡ placed wide r numbers pixels
unfolding placed
placed_from wide r numbers pixels new sized each = fill_by_all _ new (length pixels) 0 sized each

pub length-cropped : (wide : ℕ) (r : Rectangle) (pixels : List ℕ) → length (cropped wide r pixels) ≡ area r
unfolding cropped
length-cropped wide r pixels = length-map-range_with_len (λ k. get_or pixels (place_without wide r k) 0) 0 (area r)

pub get_or-cropped : (wide : ℕ) (r : Rectangle) (pixels : List ℕ) (k : ℕ) → k < area r
    → get_or (cropped wide r pixels) k 0 ≡ get_or pixels (place_without wide r k) 0
unfolding cropped
get_or-cropped wide r pixels k within =
    get_or-map-range_with_len (λ k. get_or pixels (place_without wide r k) 0) 0 (area r) k k 0 within (omega arith)

-- a list that reads so is the cropped one
pub cropped_from_reads : (wide : ℕ) (r : Rectangle) (pixels new : List ℕ) → length new ≡ area r
    → ((k : ℕ) → k < area r → get_or new k 0 ≡ get_or pixels (place_without wide r k) 0) → new ≡ cropped wide r pixels
unfolding cropped
cropped_from_reads wide r pixels new sized each = fill_by_all _ new (area r) 0 sized each

-- one row more: the first rows of the rectangle, and the run that follows
pub cropped_row : (wide : ℕ) (r : Rectangle) (row : ℕ) (pixels numbers : List ℕ)
    → length numbers ≡ row * r.w
    → ((k : ℕ) → k < row * r.w → get_or numbers k 0 ≡ get_or pixels (place_without wide r k) 0)
    → (k : ℕ) → k < (row + 1) * r.w
    → get_or (numbers ++ take r.w (drop ((r.y + row) * wide + r.x) pixels)) k 0 ≡ get_or pixels (place_without wide r k) 0
cropped_row wide r row pixels numbers sized each k within = elim (cases_lt k (row * r.w)) [
  | inl before ↦ get_or_append_left numbers _ 0 k (omega (arith, sized)) ∙ each k before
  | inr behind ↦
      let below : k < row * r.w + r.w = omega (arith, suc-mul row r.w) in
      get_or-append_right numbers _ (row * r.w) k 0 sized behind
      ∙ get_or-take r.w (drop ((r.y + row) * wide + r.x) pixels) (k - row * r.w) 0 (omega arith)
      ∙ get_or-drop ((r.y + row) * wide + r.x) pixels (k - row * r.w) 0
      ∙ ap (λ z. get_or pixels z 0) (sym (crop_place wide r row k behind below))
]

-- a pixel's number
abbrev pub IsColour : ℕ → Type 0
IsColour n = n < 2 ^ 24

-- 0 is one, so that any place of a list of them reads as one
pub IsColour-get_or : (numbers : List ℕ) (k : ℕ) → All IsColour numbers → IsColour (get_or numbers k 0)
IsColour-get_or numbers k all = elim (cases_lt k (length numbers)) [
  | inl within ↦ All-get_or IsColour numbers k 0 within all
  | inr past ↦ rw (get_or_past numbers k 0 past) (lit< tt)
]

pub All-blank : (w h : ℕ) → All IsColour (blank w h)
unfolding blank
All-blank w h = All-replicate IsColour (w * h) 0 (lit< tt)

pub All-filled : (wide : ℕ) (r : Rectangle) (colour : ℕ) (pixels : List ℕ) → IsColour colour → All IsColour pixels → All IsColour (filled wide r colour pixels)
All-filled wide r colour pixels is all =
    All-from_get_or IsColour (filled wide r colour pixels) 0
    (λ k within.
    rw (get_or-filled wide r colour pixels k (omega (arith, length-filled wide r colour pixels)))
    (cond_both (is_place_in wide r k) colour (get_or pixels k 0) IsColour (λ _. is) (λ _. IsColour-get_or pixels k all)))

pub All-placed : (wide : ℕ) (r : Rectangle) (numbers pixels : List ℕ) → All IsColour numbers → All IsColour pixels → All IsColour (placed wide r numbers pixels)
All-placed wide r numbers pixels new all =
    All-from_get_or IsColour (placed wide r numbers pixels) 0
    (λ k within.
    rw (get_or-placed wide r numbers pixels k (omega (arith, length-placed wide r numbers pixels)))
    (cond_both (is_place_in wide r k) (get_or numbers (place_within wide r k) 0) (get_or pixels k 0) IsColour
    (λ _. IsColour-get_or numbers (place_within wide r k) new) (λ _. IsColour-get_or pixels k all)))

pub All-cropped : (wide : ℕ) (r : Rectangle) (pixels : List ℕ) → All IsColour pixels → All IsColour (cropped wide r pixels)
All-cropped wide r pixels all =
    All-from_get_or IsColour (cropped wide r pixels) 0
    (λ k within. rw (get_or-cropped wide r pixels k (omega (arith, length-cropped wide r pixels))) (IsColour-get_or pixels (place_without wide r k) all))

pub length-copied : (wide : ℕ) (r : Rectangle) (x y : ℕ) (pixels : List ℕ) → length (copied wide r x y pixels) ≡ length pixels
length-copied wide r x y pixels = length-placed wide (put_at x y r) (cropped wide r pixels) pixels

pub All-copied : (wide : ℕ) (r : Rectangle) (x y : ℕ) (pixels : List ℕ) → All IsColour pixels → All IsColour (copied wide r x y pixels)
All-copied wide r x y pixels all = All-placed wide (put_at x y r) (cropped wide r pixels) pixels (All-cropped wide r pixels all) all

-- what a place of the resized pixels shows
abbrev pub kept_at : ℕ → ℕ → ℕ → ℕ → List ℕ → ℕ → ℕ
kept_at w0 h0 w h pixels k = cond (survives w0 h0 w h (k % w) (k / w)) (get_or pixels (place_of w0 (k % w) (k / w)) 0) 0

pub length-resized : (w0 h0 w h : ℕ) (pixels : List ℕ) → length (resized w0 h0 w h pixels) ≡ w * h
unfolding resized
length-resized w0 h0 w h pixels = length-map-range_with_len (kept_at w0 h0 w h pixels) 0 (w * h)

pub get_or-resized : (w0 h0 w h : ℕ) (pixels : List ℕ) (k : ℕ) → k < w * h → get_or (resized w0 h0 w h pixels) k 0 ≡ kept_at w0 h0 w h pixels k
unfolding resized
get_or-resized w0 h0 w h pixels k within = get_or-map-range_with_len (kept_at w0 h0 w h pixels) 0 (w * h) k k 0 within (omega arith)

-- a list that reads so is the resized one
pub resized_from : (w0 h0 w h : ℕ) (pixels new : List ℕ) → length new ≡ w * h
    → ((k : ℕ) → k < w * h → get_or new k 0 ≡ kept_at w0 h0 w h pixels k) → new ≡ resized w0 h0 w h pixels
unfolding resized
resized_from w0 h0 w h pixels new sized each = fill_by_all _ new (w * h) 0 sized each

pub All-resized : (w0 h0 w h : ℕ) (pixels : List ℕ) → All IsColour pixels → All IsColour (resized w0 h0 w h pixels)
All-resized w0 h0 w h pixels all =
    All-from_get_or IsColour (resized w0 h0 w h pixels) 0
    (λ k within.
    rw (get_or-resized w0 h0 w h pixels k (omega (arith, length-resized w0 h0 w h pixels)))
    (cond_both (survives w0 h0 w h (k % w) (k / w)) (get_or pixels (place_of w0 (k % w) (k / w)) 0) 0 IsColour
    (λ _. IsColour-get_or pixels (place_of w0 (k % w) (k / w)) all) (λ _. lit< tt)))

-- the columns and rows that both sizes have
pub overlap : (w0 h0 w h x y : ℕ) → (ltb x (min w w0) && ltb y (min h h0)) ≡ survives w0 h0 w h x y
overlap w0 h0 w h x y = grind (arith, nat_tests)

pub length-noise : (state count : ℕ) → length (noise state count) ≡ count
length-noise state zero = refl
length-noise state (suc count) = ap suc (length-noise (next_state state) count)

pub All-noise : (state count : ℕ) → All IsColour (noise state count)
All-noise state zero = All-nil IsColour
All-noise state (suc count) = All-cons IsColour (colour_of (next_state state)) (noise (next_state state) count) (mod_below (next_state state / 2 ^ 33) (2 ^ 24) (lit< tt)) (All-noise (next_state state) count)

-- so many pixels, of which some are made: one more
pub noise-more : (all made : List ℕ) (state rest : ℕ) → 0 < rest → all ≡ made ++ noise state rest
    → all ≡ (made ++ colour_of (next_state state) ∷ []) ++ noise (next_state state) (rest - 1)
noise-more all made state zero some is = absurd (omega arith)
noise-more all made state (suc rest) some is =
    let less : suc rest - 1 ≡ rest = omega arith in
    is ∙ sym (append_assoc made (colour_of (next_state state) ∷ []) (noise (next_state state) rest))
    ∙ ap (λ n. (made ++ colour_of (next_state state) ∷ []) ++ noise (next_state state) n) (sym less)
