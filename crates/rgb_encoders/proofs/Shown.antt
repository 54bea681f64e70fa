-- What coded pixels show.
use Rattle.std.proofs.Common.{◌≡◌, ℕ, ◌+◌, ◌*◌, ◌/◌, ◌%◌, ◌<◌, zero, suc, List, [], ◌∷◌, length, get_or, map, ap, sym, ◌∙◌, arith}
use Rattle.std.proofs.lemmas.List.{ext_get_or, get_or-map, length-map}
use Rattle.std.proofs.lemmas.List.FromFn.{get_or-map-range_with_len, length-map-range_with_len}
use Rattle.std.proofs.lemmas.Nat.{div-add-mod'}
use Rattle.xp_base.specs.declared.coding.Coding.{Coding}
use Rattle.xp_base.specs.declared.coding.Coding.TheVariants.{Exact, Lossy}
use Rattle.rgb_encoders.specs.Colour.{red, green, blue, colour, expansion, lossy_number, shown}
use Rattle.rgb_encoders.specs.PixelBytes.{pixel_size, coded_bytes, colour_at}
use Rattle.rgb_encoders.specs.Decoded.{decoded_at, decoded}

-- the channels of a number make it again
pub colour-channels : (number : ℕ) → colour (red number) (green number) (blue number) ≡ number
colour-channels number = omega arith

-- a number from its two bytes
number_of_bytes : (n : ℕ) → n / 256 * 256 + n % 256 ≡ n
number_of_bytes n = omega arith

-- behind the first two
past_two : (a b : ℕ) (rest : List ℕ) (at place : ℕ) → at ≡ place + 2 → get_or (a ∷ b ∷ rest) at 0 ≡ get_or rest place 0
past_two a b rest at place is = let later : at ≡ suc (suc place) = omega arith in ap (λ n. get_or (a ∷ b ∷ rest) n 0) later

past_four : (a b c d : ℕ) (rest : List ℕ) (at place : ℕ) → at ≡ place + 4 → get_or (a ∷ b ∷ c ∷ d ∷ rest) at 0 ≡ get_or rest place 0
past_four a b c d rest at place is =
    let later : at ≡ suc (suc (suc (suc place))) = omega arith in ap (λ n. get_or (a ∷ b ∷ c ∷ d ∷ rest) n 0) later

exact_shows : (pixels : List ℕ) (k : ℕ) → k < length pixels → colour_at Exact (coded_bytes Exact pixels) (k * 4) ≡ get_or pixels k 0
exact_shows [] k within = absurd (omega arith)
exact_shows (x ∷ xs) zero within = colour-channels x
exact_shows (x ∷ xs) (suc k) within =
    let rest = coded_bytes Exact xs in
    let r = past_four (blue x) (green x) (red x) 255 rest (suc k * 4 + 2) (k * 4 + 2) (omega arith) in
    let g = past_four (blue x) (green x) (red x) 255 rest (suc k * 4 + 1) (k * 4 + 1) (omega arith) in
    let b = past_four (blue x) (green x) (red x) 255 rest (suc k * 4) (k * 4) (omega arith) in
    let later = exact_shows xs k (omega arith) in
    omega (arith, r, g, b, later)

lossy_shows : (pixels : List ℕ) (k : ℕ) → k < length pixels → colour_at Lossy (coded_bytes Lossy pixels) (k * 2) ≡ shown Lossy (get_or pixels k 0)
lossy_shows [] k within = absurd (omega arith)
lossy_shows (x ∷ xs) zero within = ap expansion (number_of_bytes (lossy_number x))
lossy_shows (x ∷ xs) (suc k) within =
    let rest = coded_bytes Lossy xs in
    let low = lossy_number x % 256 in
    let high = lossy_number x / 256 in
    let h = past_two low high rest (suc k * 2 + 1) (k * 2 + 1) (omega arith) in
    let l = past_two low high rest (suc k * 2) (k * 2) (omega arith) in
    let number : get_or (low ∷ high ∷ rest) (suc k * 2 + 1) 0 * 256 + get_or (low ∷ high ∷ rest) (suc k * 2) 0 ≡ get_or rest (k * 2 + 1) 0 * 256 + get_or rest (k * 2) 0 = omega (arith, h, l) in
    ap expansion number ∙ lossy_shows xs k (omega arith)

-- the bytes of the k-th pixel show it
pub colour_at-coded_bytes : (coding : Coding) (pixels : List ℕ) (k : ℕ) → k < length pixels
    → colour_at coding (coded_bytes coding pixels) (k * pixel_size coding) ≡ shown coding (get_or pixels k 0)
colour_at-coded_bytes Exact pixels k within = exact_shows pixels k within
colour_at-coded_bytes Lossy pixels k within = lossy_shows pixels k within

-- rows without a gap
row_place : (w k size : ℕ) → k / w * (w * size) + k % w * size ≡ k * size
row_place w k size = let scaled = ap (λ n. n * size) (div-add-mod' k w) in omega (arith, scaled)

pub decoded-coded_bytes : (coding : Coding) (w h : ℕ) (pixels : List ℕ) → length pixels ≡ w * h
    → decoded coding w h (w * pixel_size coding) (coded_bytes coding pixels) ≡ map (shown coding) pixels
decoded-coded_bytes coding w h pixels sized =
    let bytes = coded_bytes coding pixels in
    let size = pixel_size coding in
    let f : ℕ → ℕ = λ k. decoded_at coding (w * size) bytes (k % w) (k / w) in
    let count = length-map-range_with_len f 0 (w * h) in
    ext_get_or 0 (decoded coding w h (w * size) bytes) (map (shown coding) pixels)
    (count ∙ sym sized ∙ sym (length-map pixels (shown coding)))
    (λ k within.
    let inside : k < w * h = omega (arith, count, within) in
    let known : k < length pixels = omega (arith, inside, sized) in
    get_or-map-range_with_len f 0 (w * h) k k 0 inside (omega arith) ∙ ap (colour_at coding bytes) (row_place w k size)
    ∙ colour_at-coded_bytes coding pixels k known ∙ sym (get_or-map (shown coding) pixels k 0 0 known))
