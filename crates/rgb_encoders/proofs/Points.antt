-- Which pixel decoding gives at each point.
use Rattle.std.proofs.Common.{◌≡◌, ℕ, ◌+◌, ◌*◌, ◌/◌, ◌%◌, ◌<◌, Some, None, [], ◌∷◌, ◌++◌, true, cond, ◌&&◌, ltb, List, length, get_or, map, ap, sym, ◌∙◌, arith}
use Rattle.std.proofs.lemmas.List.FromFn.{get_or-map-range_with_len, length-map-range_with_len, map-range_with_len_more}
use Rattle.std.proofs.lemmas.Nat.{mul-add-lt, div-mul-add, mod-mul-add}
use Rattle.std.proofs.lemmas.Bool.Decides.{nat_tests}
use Rattle.std.proofs.lemmas.Option.{slice_get-get_or}
use Rattle.std.specs.List.{slice_get, range_with_len}
use Rattle.xp_base.specs.declared.coding.Coding.{Coding}
use Rattle.xp_base.specs.Grid.{number_at}
use Rattle.rgb_encoders.specs.Decoded.{decoded_at, decoded}

pub length-decoded : (coding : Coding) (w h stride : ℕ) (bytes : List ℕ) → length (decoded coding w h stride bytes) ≡ w * h
length-decoded coding w h stride bytes = length-map-range_with_len (λ k. decoded_at coding stride bytes (k % w) (k / w)) 0 (w * h)

-- the number at column x of row y
pub decoded-place : (coding : Coding) (w h stride : ℕ) (bytes : List ℕ) (x y : ℕ) → x < w → y < h
    → get_or (decoded coding w h stride bytes) (y * w + x) 0 ≡ decoded_at coding stride bytes x y
decoded-place coding w h stride bytes x y left above =
    let f : ℕ → ℕ = λ k. decoded_at coding stride bytes (k % w) (k / w) in
    let k = y * w + x in
    get_or-map-range_with_len f 0 (w * h) k k 0 (mul-add-lt y w x h above left) (omega arith)
    ∙ ap (λ q. decoded_at coding stride bytes (k % w) q) (div-mul-add y w x left)
    ∙ ap (λ m. decoded_at coding stride bytes m y) (mod-mul-add y w x left)

pub number_at-decoded : (coding : Coding) (w h stride : ℕ) (bytes : List ℕ) (x y : ℕ) → x < w → y < h
    → number_at w h (decoded coding w h stride bytes) x y ≡ Some (decoded_at coding stride bytes x y)
number_at-decoded coding w h stride bytes x y left above =
    let pixels = decoded coding w h stride bytes in
    let inside : (ltb x w && ltb y h) ≡ true = grind (arith, nat_tests) in
    let known : y * w + x < length pixels = omega (arith, mul-add-lt y w x h above left, length-decoded coding w h stride bytes) in
    ap (λ b. cond b (slice_get pixels (y * w + x)) None) inside ∙ slice_get-get_or pixels (y * w + x) 0 known
    ∙ ap Some (decoded-place coding w h stride bytes x y left above)

-- the first so many pixels that decoding gives
abbrev pub first_decoded : Coding → ℕ → ℕ → List ℕ → ℕ → List ℕ
first_decoded coding w stride bytes count = map (λ k. decoded_at coding stride bytes (k % w) (k / w)) (range_with_len 0 count)

-- one pixel more
pub decoded_more : (coding : Coding) (w stride : ℕ) (bytes : List ℕ) (x y : ℕ) → x < w
    → first_decoded coding w stride bytes (y * w + (x + 1)) ≡ first_decoded coding w stride bytes (y * w + x) ++ decoded_at coding stride bytes x y ∷ []
decoded_more coding w stride bytes x y left =
    let f : ℕ → ℕ = λ k. decoded_at coding stride bytes (k % w) (k / w) in
    let k = y * w + x in
    let next : y * w + (x + 1) ≡ k + 1 = omega arith in
    let here : f k ≡ decoded_at coding stride bytes x y =
    ap (λ q. decoded_at coding stride bytes (k % w) q) (div-mul-add y w x left) ∙ ap (λ m. decoded_at coding stride bytes m y) (mod-mul-add y w x left) in
    ap (first_decoded coding w stride bytes) next ∙ map-range_with_len_more f 0 k k (omega arith)
    ∙ ap (λ n. first_decoded coding w stride bytes k ++ n ∷ []) here

-- one pixel more was pushed
pub decoded_pushed : (coding : Coding) (w stride : ℕ) (bytes : List ℕ) (x y : ℕ) (was now : List ℕ) (number : ℕ) → x < w
    → was ≡ first_decoded coding w stride bytes (y * w + x) → now ≡ was ++ number ∷ [] → number ≡ decoded_at coding stride bytes x y
    → now ≡ first_decoded coding w stride bytes (y * w + (x + 1))
decoded_pushed coding w stride bytes x y was now number left so_far pushed here =
    pushed ∙ ap (λ items. items ++ number ∷ []) so_far ∙ ap (λ n. first_decoded coding w stride bytes (y * w + x) ++ n ∷ []) here
    ∙ sym (decoded_more coding w stride bytes x y left)
