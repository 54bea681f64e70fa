-- Pixels on lanes. The number of a vector has its lanes as digits, and so has that of its bytes.
use Rattle.std.proofs.Common.{◌≡◌, ℕ, zero, suc, ◌+◌, ◌*◌, ◌/◌, ◌%◌, ◌^◌, ◌<◌, List, [], ◌∷◌, length, replicate, refl, ap, ap₂, sym, ◌∙◌, subst, arith, w16, w32}
use Rattle.std.specs.Prelude.{map}
use Rattle.std.specs.List.{AllByRecursion}
use Rattle.std.specs.Simd.Lanes.{zip2, Each1, number_l, digits_l}
use mir.Syntax.{shl, shr, wrap_add, unsigned, cast}
use borrow.Rule.Simd.Lanes.{act1, act2, Asks1}
use borrow.Table.Row.{s_int}
use Rattle.xp_base.specs.declared.coding.Coding.TheVariants.{Exact, Lossy}
use Rattle.rgb_encoders.specs.Colour.{colour, expansion, lossy_number}
use Rattle.rgb_encoders.specs.PixelBytes.{coded_bytes}
use Rattle.rgb_encoders.specs.Rows.{row_colours}
use Rattle.rgb_encoders.proofs.Rows.{Byte, Small}

-- two and four times a number, step by step
abbrev double : ℕ → ℕ
double zero = zero
double (suc n) = suc (suc (double n))

abbrev fourfold : ℕ → ℕ
fourfold zero = zero
fourfold (suc n) = suc (suc (suc (suc (fourfold n))))

-- a list by its first element
cons : {x y : ℕ} {xs ys : List ℕ} → x ≡ y → xs ≡ ys → x ∷ xs ≡ y ∷ ys
cons e es = ap₂ (λ (b : ℕ) (bs : List ℕ). b ∷ bs) e es

-- the four low bytes of a number whose next digit is at 2^32, and the two low bytes of one whose next digit is at 2^16
four_bytes : (n x rest : ℕ) → x < 2 ^ 32
    → digits_l 256 (suc (suc (suc (suc n)))) (x + 4294967296 * rest) ≡ x % 256 ∷ x / 256 % 256 ∷ x / 65536 % 256 ∷ x / 16777216 ∷ digits_l 256 n rest
four_bytes n x rest small =
    let m = x + 4294967296 * rest in
    let b0 : m % 256 ≡ x % 256 = omega arith in
    let b1 : m / 256 % 256 ≡ x / 256 % 256 = omega arith in
    let b2 : m / 256 / 256 % 256 ≡ x / 65536 % 256 = omega arith in
    let b3 : m / 256 / 256 / 256 % 256 ≡ x / 16777216 = omega arith in
    let later : m / 256 / 256 / 256 / 256 ≡ rest = omega arith in
    cons b0 (cons b1 (cons b2 (cons b3 (ap (digits_l 256 n) later))))

two_bytes : (n x rest : ℕ) → x < 2 ^ 16 → digits_l 256 (suc (suc n)) (x + 65536 * rest) ≡ x % 256 ∷ x / 256 ∷ digits_l 256 n rest
two_bytes n x rest small =
    let m = x + 65536 * rest in
    let b0 : m % 256 ≡ x % 256 = omega arith in
    let b1 : m / 256 % 256 ≡ x / 256 = omega arith in
    let later : m / 256 / 256 ≡ rest = omega arith in
    cons b0 (cons b1 (ap (digits_l 256 n) later))

-- what each lane does
abbrev added : List ℕ → List ℕ → List ℕ
added = zip2 (act2 wrap_add (s_int w32) (s_int w32) (s_int w32))

abbrev up : ℕ → ℕ → List ℕ → List ℕ
up n k xs = zip2 (act2 shl (s_int w32) (s_int w32) (s_int w32)) xs (replicate n k)

abbrev down : ℕ → ℕ → List ℕ → List ℕ
down n k xs = zip2 (act2 (shr unsigned) (s_int w32) (s_int w32) (s_int w32)) xs (replicate n k)

-- exact bytes
pub exact_lanes : (n : ℕ) (xs : List ℕ) → length xs ≡ n → AllByRecursion Small xs
    → digits_l 256 (fourfold n) (number_l 4294967296 (added xs (replicate n 4278190080))) ≡ coded_bytes Exact xs
exact_lanes zero [] sized small = refl
exact_lanes zero (x ∷ xs) sized small = absurd (omega (arith, sized))
exact_lanes (suc n) [] sized small = absurd (omega (arith, sized))
exact_lanes (suc n) (x ∷ xs) sized small =
    let own : x < 2 ^ 24 = small.0 in
    let lane = (x + 4278190080) % 4294967296 in
    let fits : lane < 2 ^ 32 = omega arith in
    let b0 : lane % 256 ≡ x % 256 = omega arith in
    let b1 : lane / 256 % 256 ≡ x / 256 % 256 = omega arith in
    let b2 : lane / 65536 % 256 ≡ x / 65536 = omega arith in
    let b3 : lane / 16777216 ≡ 255 = omega arith in
    four_bytes (fourfold n) lane (number_l 4294967296 (added xs (replicate n 4278190080))) fits
    ∙ cons b0 (cons b1 (cons b2 (cons b3 (exact_lanes n xs (omega (arith, sized)) small.1))))

-- lossy numbers
abbrev lossies : ℕ → List ℕ → List ℕ
lossies n xs = added (added (up n 11 (down n 19 xs)) (up n 5 (down n 26 (up n 16 xs)))) (down n 27 (up n 24 xs))

lossy_lane : (x : ℕ) → x < 2 ^ 24
    → ((x / 524288 * 2048 % 4294967296 + x * 65536 % 4294967296 / 67108864 * 32 % 4294967296) % 4294967296 + x * 16777216 % 4294967296 / 134217728) % 4294967296 ≡ lossy_number x
lossy_lane x small = omega arith

lossy_small : (x : ℕ) → x < 2 ^ 24 → lossy_number x < 2 ^ 16
lossy_small x small = omega arith

pub lossy_fits : (n : ℕ) (xs : List ℕ) → length xs ≡ n → AllByRecursion Small xs → Each1 (Asks1 (cast unsigned unsigned w16) (s_int w32)) (lossies n xs)
lossy_fits zero [] sized small = tt
lossy_fits zero (x ∷ xs) sized small = absurd (omega (arith, sized))
lossy_fits (suc n) [] sized small = absurd (omega (arith, sized))
lossy_fits (suc n) (x ∷ xs) sized small =
    (record { fits = subst (λ v. v < 2 ^ 16) (sym (lossy_lane x small.0)) (lossy_small x small.0) }, lossy_fits n xs (omega (arith, sized)) small.1)

pub lossy_lanes : (n : ℕ) (xs : List ℕ) → length xs ≡ n → AllByRecursion Small xs
    → digits_l 256 (double n) (number_l 65536 (map (act1 (cast unsigned unsigned w16) (s_int w32) (s_int w16)) (lossies n xs))) ≡ coded_bytes Lossy xs
lossy_lanes zero [] sized small = refl
lossy_lanes zero (x ∷ xs) sized small = absurd (omega (arith, sized))
lossy_lanes (suc n) [] sized small = absurd (omega (arith, sized))
lossy_lanes (suc n) (x ∷ xs) sized small =
    let rest = number_l 65536 (map (act1 (cast unsigned unsigned w16) (s_int w32) (s_int w16)) (lossies n xs)) in
    ap (λ (lane : ℕ). digits_l 256 (suc (suc (double n))) (lane + 65536 * rest)) (lossy_lane x small.0)
    ∙ two_bytes (double n) (lossy_number x) rest (lossy_small x small.0)
    ∙ ap (λ (bs : List ℕ). lossy_number x % 256 ∷ lossy_number x / 256 ∷ bs) (lossy_lanes n xs (omega (arith, sized)) small.1)

-- colours of exact bytes
pub exact_words : (n : ℕ) (bytes : List ℕ) → length bytes ≡ fourfold n → AllByRecursion Byte bytes
    → down n 8 (up n 8 (digits_l 4294967296 n (number_l 256 bytes))) ≡ row_colours Exact n bytes
exact_words zero bytes sized small = refl
exact_words (suc n) [] sized small = absurd (omega (arith, sized))
exact_words (suc n) (a ∷ []) sized small = absurd (omega (arith, sized))
exact_words (suc n) (a ∷ b ∷ []) sized small = absurd (omega (arith, sized))
exact_words (suc n) (a ∷ b ∷ c ∷ []) sized small = absurd (omega (arith, sized))
exact_words (suc n) (a ∷ b ∷ c ∷ d ∷ bytes) sized small =
    let rest = number_l 256 bytes in
    let m = a + 256 * (b + 256 * (c + 256 * (d + 256 * rest))) in
    let ha : a < 256 = small.0 in
    let hb : b < 256 = small.1.0 in
    let hc : c < 256 = small.1.1.0 in
    let hd : d < 256 = small.1.1.1.0 in
    let here : m % 4294967296 * 256 % 4294967296 / 256 ≡ colour c b a = omega arith in
    let later : m / 4294967296 ≡ rest = omega arith in
    cons here (ap (λ (k : ℕ). down n 8 (up n 8 (digits_l 4294967296 n k))) later ∙ exact_words n bytes (omega (arith, sized)) small.1.1.1.1)

-- colours of lossy bytes
abbrev expanded : ℕ → List ℕ → List ℕ
expanded n xs =
    let red = down n 11 xs in
    let green = down n 26 (up n 21 xs) in
    let blue = down n 27 (up n 27 xs) in
    added (added (up n 16 (added (up n 3 red) (down n 2 red))) (up n 8 (added (up n 2 green) (down n 4 green)))) (added (up n 3 blue) (down n 2 blue))

expanded_lane : (n : ℕ) → n < 2 ^ 16
    → (((n / 2048 * 8 % 4294967296 + n / 2048 / 4) % 4294967296 * 65536 % 4294967296
    + (n * 2097152 % 4294967296 / 67108864 * 4 % 4294967296 + n * 2097152 % 4294967296 / 67108864 / 16) % 4294967296 * 256 % 4294967296) % 4294967296
    + (n * 134217728 % 4294967296 / 134217728 * 8 % 4294967296 + n * 134217728 % 4294967296 / 134217728 / 4) % 4294967296) % 4294967296 ≡ expansion n
expanded_lane n small =
    let r : n / 2048 < 32 = omega arith in
    let g : n * 2097152 % 4294967296 / 67108864 ≡ n / 32 % 64 = omega arith in
    let b : n * 134217728 % 4294967296 / 134217728 ≡ n % 32 = omega arith in
    rw (g, b) (omega arith)

pub lossy_words : (n : ℕ) (bytes : List ℕ) → length bytes ≡ double n → AllByRecursion Byte bytes
    → expanded n (map (act1 (cast unsigned unsigned w32) (s_int w16) (s_int w32)) (digits_l 65536 n (number_l 256 bytes))) ≡ row_colours Lossy n bytes
lossy_words zero bytes sized small = refl
lossy_words (suc n) [] sized small = absurd (omega (arith, sized))
lossy_words (suc n) (a ∷ []) sized small = absurd (omega (arith, sized))
lossy_words (suc n) (a ∷ b ∷ bytes) sized small =
    let rest = number_l 256 bytes in
    let m = a + 256 * (b + 256 * rest) in
    let ha : a < 256 = small.0 in
    let hb : b < 256 = small.1.0 in
    let number : m % 65536 ≡ b * 256 + a = omega arith in
    let fits : m % 65536 < 2 ^ 16 = omega arith in
    let later : m / 65536 ≡ rest = omega arith in
    cons (expanded_lane (m % 65536) fits ∙ ap expansion number)
    (ap (λ (k : ℕ). expanded n (map (act1 (cast unsigned unsigned w32) (s_int w16) (s_int w32)) (digits_l 65536 n k))) later ∙ lossy_words n bytes (omega (arith, sized)) small.1.1)

-- the colours of sixteen pixels, as lanes give them
abbrev pub exact_colours_of : List ℕ → List ℕ
exact_colours_of bytes = down 16 8 (up 16 8 (digits_l 4294967296 16 (number_l 256 bytes)))

abbrev pub lossy_colours_of : List ℕ → List ℕ
lossy_colours_of bytes = expanded 16 (map (act1 (cast unsigned unsigned w32) (s_int w16) (s_int w32)) (digits_l 65536 16 (number_l 256 bytes)))
