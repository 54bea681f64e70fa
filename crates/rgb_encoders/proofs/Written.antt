-- Bytes written one after another.
use Rattle.std.proofs.Common.{◌≡◌, ℕ, ◌+◌, ◌*◌, ◌/◌, ◌%◌, ◌<◌, ◌≤◌, List, [], ◌∷◌, ◌++◌, length, get_or, set, take, ap, sym, ◌∙◌, arith, append_assoc, length-set}
use Rattle.std.proofs.lemmas.List.{take_more, take_more_set, append-nil}
use Rattle.std.proofs.lemmas.List.Concat.{flat_map-append}
use Rattle.xp_base.specs.declared.coding.Coding.{Coding}
use Rattle.xp_base.specs.declared.coding.Coding.TheVariants.{Exact, Lossy}
use Rattle.rgb_encoders.specs.Colour.{lossy_number}
use Rattle.rgb_encoders.specs.PixelBytes.{pixel_bytes, coded_bytes}

-- the bytes of one pixel more
pub coded_more : (coding : Coding) (pixels : List ℕ) (i : ℕ) → i < length pixels
    → coded_bytes coding (take (i + 1) pixels) ≡ coded_bytes coding (take i pixels) ++ pixel_bytes coding (get_or pixels i 0)
coded_more coding pixels i within =
    ap (coded_bytes coding) (take_more pixels i 0 within) ∙ flat_map-append (pixel_bytes coding) (take i pixels) (get_or pixels i 0 ∷ [])
    ∙ ap (λ rest. coded_bytes coding (take i pixels) ++ rest) (append-nil (pixel_bytes coding (get_or pixels i 0)))

-- one byte more
byte_more : (s front : List ℕ) (at next x : ℕ) → next ≡ at + 1 → at < length s → take at s ≡ front → take next (set s at x) ≡ front ++ x ∷ []
byte_more s front at next x is within so_far =
    ap (λ n. take n (set s at x)) is ∙ take_more_set s at x within ∙ ap (λ part. part ++ x ∷ []) so_far

two_more : (s front : List ℕ) (at next a b : ℕ) → next ≡ at + 2 → at + 2 ≤ length s → take at s ≡ front
    → take next (set (set s at a) (at + 1) b) ≡ front ++ a ∷ b ∷ []
two_more s front at next a b is within so_far =
    let first = byte_more s front at (at + 1) a (omega arith) (omega arith) so_far in
    let l1 = length-set s at a in
    byte_more (set s at a) (front ++ a ∷ []) (at + 1) next b (omega arith) (omega (arith, l1)) first ∙ append_assoc front (a ∷ []) (b ∷ [])

four_more : (s front : List ℕ) (at next a b c d : ℕ) → next ≡ at + 4 → at + 4 ≤ length s → take at s ≡ front
    → take next (set (set (set (set s at a) (at + 1) b) (at + 2) c) (at + 3) d) ≡ front ++ a ∷ b ∷ c ∷ d ∷ []
four_more s front at next a b c d is within so_far =
    let s2 = set (set s at a) (at + 1) b in
    let two = two_more s front at (at + 2) a b (omega arith) (omega arith) so_far in
    let l2 : length s2 ≡ length s = length-set (set s at a) (at + 1) b ∙ length-set s at a in
    let l3 = length-set s2 (at + 2) c in
    let three = byte_more s2 (front ++ a ∷ b ∷ []) (at + 2) (at + 3) c (omega arith) (omega (arith, l2)) two in
    byte_more (set s2 (at + 2) c) ((front ++ a ∷ b ∷ []) ++ c ∷ []) (at + 3) next d (omega arith) (omega (arith, l2, l3)) three
    ∙ simp append_assoc

-- one exact pixel more was written
pub exact_more : (s pixels : List ℕ) (i number : ℕ) → length s ≡ length pixels * 4 → i < length pixels → number ≡ get_or pixels i 0
    → take (i * 4) s ≡ coded_bytes Exact (take i pixels)
    → take ((i + 1) * 4) (set (set (set (set s (i * 4) (number % 256)) (i * 4 + 1) (number / 256 % 256)) (i * 4 + 2) (number / 65536)) (i * 4 + 3) 255)
    ≡ coded_bytes Exact (take (i + 1) pixels)
exact_more s pixels i number sized within is so_far =
    four_more s (coded_bytes Exact (take i pixels)) (i * 4) ((i + 1) * 4) (number % 256) (number / 256 % 256) (number / 65536) 255
    (omega arith) (omega (arith, sized, within)) so_far
    ∙ ap (λ n. coded_bytes Exact (take i pixels) ++ pixel_bytes Exact n) is ∙ sym (coded_more Exact pixels i within)

-- one lossy pixel more was written
pub lossy_more : (s pixels : List ℕ) (i number : ℕ) → length s ≡ length pixels * 2 → i < length pixels → number ≡ lossy_number (get_or pixels i 0)
    → take (i * 2) s ≡ coded_bytes Lossy (take i pixels)
    → take ((i + 1) * 2) (set (set s (i * 2) (number % 256)) (i * 2 + 1) (number / 256)) ≡ coded_bytes Lossy (take (i + 1) pixels)
lossy_more s pixels i number sized within is so_far =
    two_more s (coded_bytes Lossy (take i pixels)) (i * 2) ((i + 1) * 2) (number % 256) (number / 256) (omega arith) (omega (arith, sized, within)) so_far
    ∙ ap (λ n. coded_bytes Lossy (take i pixels) ++ n % 256 ∷ n / 256 ∷ []) is ∙ sym (coded_more Lossy pixels i within)
