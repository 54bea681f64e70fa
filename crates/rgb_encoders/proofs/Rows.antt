-- The colours of a row, part by part.
use Rattle.std.proofs.Common.{◌≡◌, ℕ, zero, suc, ◌+◌, ◌-◌, ◌*◌, ◌/◌, ◌%◌, ◌^◌, ◌<◌, ◌≤◌, List, [], ◌∷◌, ◌++◌, length, get_or, set, take, drop, refl, ap, ap₂, sym, ◌∙◌, subst, arith, append_assoc, Fits, w8}
use Rattle.std.proofs.Math.Nat.{mul_assoc}
use Rattle.std.proofs.Math.Seq.{take-add, drop-drop}
use Rattle.std.proofs.lemmas.List.{get_or-drop, get_or-take, take-append-drop, append-nil, take_all, take_more, take_more_set, length-drop}
use Rattle.std.proofs.lemmas.List.Concat.{flat_map-append}
use Rattle.std.specs.List.{AllByRecursion}
use Rattle.std.specs.Prelude.{slice_range}
use Rattle.xp_base.specs.declared.coding.Coding.{Coding}
use Rattle.xp_base.specs.declared.coding.Coding.TheVariants.{Exact, Lossy}
use Rattle.rgb_encoders.specs.Colour.{colour, expansion}
use Rattle.rgb_encoders.specs.PixelBytes.{pixel_size, pixel_bytes, coded_bytes, colour_at}
use Rattle.rgb_encoders.specs.Rows.{row_colours}
use Rattle.rgb_encoders.proofs.Points.{first_decoded, decoded_more}
use Rattle.rgb_encoders.proofs.Written.{coded_more}

-- the bytes of pixels in two parts
pub coded_parts : (coding : Coding) (pixels : List ℕ) (m n : ℕ)
    → coded_bytes coding (take (m + n) pixels) ≡ coded_bytes coding (take m pixels) ++ coded_bytes coding (take n (drop m pixels))
coded_parts coding pixels m n = ap (coded_bytes coding) (take-add m n pixels) ∙ flat_map-append (pixel_bytes coding) (take m pixels) (take n (drop m pixels))

pub coded_whole : (coding : Coding) (pixels : List ℕ) (m : ℕ) → coded_bytes coding (take m pixels) ++ coded_bytes coding (drop m pixels) ≡ coded_bytes coding pixels
coded_whole coding pixels m = sym (flat_map-append (pixel_bytes coding) (take m pixels) (drop m pixels)) ∙ ap (coded_bytes coding) (take-append-drop m pixels)

-- these bytes are those of a longer list from a place on, as far as so many bytes go
abbrev pub Lie : ℕ → List ℕ → List ℕ → ℕ → Type 0
Lie count part bytes place = (i : ℕ) → i < count → get_or part i 0 ≡ get_or bytes (place + i) 0

pub colour_lies : (coding : Coding) (part bytes : List ℕ) (place : ℕ) → Lie (pixel_size coding) part bytes place → colour_at coding part 0 ≡ colour_at coding bytes place
colour_lies Exact part bytes place lie =
    let b0 = lie 0 (omega arith) in
    let b1 = lie 1 (omega arith) in
    let b2 = lie 2 (omega arith) in
    let here : get_or bytes (place + 0) 0 ≡ get_or bytes place 0 = ap (λ k. get_or bytes k 0) (let e : place + 0 ≡ place = omega arith in e) in
    omega (arith, b0, b1, b2, here)
colour_lies Lossy part bytes place lie =
    let b0 = lie 0 (omega arith) in
    let b1 = lie 1 (omega arith) in
    let here : get_or bytes (place + 0) 0 ≡ get_or bytes place 0 = ap (λ k. get_or bytes k 0) (let e : place + 0 ≡ place = omega arith in e) in
    let number : get_or part 1 0 * 256 + get_or part 0 0 ≡ get_or bytes (place + 1) 0 * 256 + get_or bytes place 0 = omega (arith, b0, b1, here) in
    ap expansion number

-- what lies behind the first pixel
later_lies : (size count : ℕ) (part bytes : List ℕ) (place : ℕ) → Lie (size + count) part bytes place → Lie count (drop size part) bytes (place + size)
later_lies size count part bytes place lie i within =
    get_or-drop size part i 0 ∙ lie (size + i) (omega arith) ∙ ap (λ k. get_or bytes k 0) (let e : place + (size + i) ≡ place + size + i = omega arith in e)

first_lies : (size count : ℕ) (part bytes : List ℕ) (place : ℕ) → Lie (size + count) part bytes place → Lie size part bytes place
first_lies size count part bytes place lie i within = lie i (omega arith)

more_lies : (size n count : ℕ) (part bytes : List ℕ) (place : ℕ) → count ≡ size + n * size → Lie count part bytes place → Lie (size + n * size) part bytes place
more_lies size n count part bytes place is lie i within = lie i (omega (arith, is))

-- bytes that agree have the same colours
pub same_colours : (coding : Coding) (n : ℕ) (part bytes : List ℕ) (place : ℕ) → Lie (n * pixel_size coding) part bytes place → row_colours coding n part ≡ row_colours coding n (drop place bytes)
same_colours coding zero part bytes place lie = refl
same_colours coding (suc n) part bytes place lie =
    let size = pixel_size coding in
    let lies = more_lies size n (suc n * size) part bytes place (omega arith) lie in
    let own = first_lies size (n * size) part bytes place lies in
    let there : colour_at coding part 0 ≡ colour_at coding (drop place bytes) 0 =
    colour_lies coding part bytes place own ∙ sym (colour_lies coding (drop place bytes) bytes place (λ i within. get_or-drop place bytes i 0)) in
    ap₂ (λ (c : ℕ) (cs : List ℕ). c ∷ cs) there
    (same_colours coding n (drop size part) bytes (place + size) (later_lies size (n * size) part bytes place lies)
    ∙ ap (row_colours coding n) (sym (drop-drop size place bytes)))

-- the colours of a part of the bytes
pub colours_within : (coding : Coding) (n : ℕ) (bytes : List ℕ) (from to : ℕ) → from + n * pixel_size coding ≤ to
    → row_colours coding n (slice_range bytes from to) ≡ row_colours coding n (drop from bytes)
colours_within coding n bytes from to within =
    same_colours coding n (slice_range bytes from to) bytes from
    (λ i less. get_or-take (to - from) (drop from bytes) i 0 (omega arith) ∙ get_or-drop from bytes i 0)

-- colours in two parts
pub colours_parts : (coding : Coding) (m n : ℕ) (bytes : List ℕ)
    → row_colours coding (m + n) bytes ≡ row_colours coding m bytes ++ row_colours coding n (drop (m * pixel_size coding) bytes)
colours_parts coding zero n bytes =
    ap (λ k. row_colours coding k bytes) (let e : 0 + n ≡ n = omega arith in e)
    ∙ ap (λ k. row_colours coding n (drop k bytes)) (let e : 0 ≡ 0 * pixel_size coding = omega arith in e)
colours_parts coding (suc m) n bytes =
    let size = pixel_size coding in
    let place : size + m * size ≡ suc m * size = omega arith in
    ap (λ k. row_colours coding k bytes) (let e : suc m + n ≡ suc (m + n) = omega arith in e)
    ∙ ap (λ (cs : List ℕ). colour_at coding bytes 0 ∷ cs)
    (colours_parts coding m n (drop size bytes)
    ∙ ap (λ (rest : List ℕ). row_colours coding m (drop size bytes) ++ row_colours coding n rest) (drop-drop (m * size) size bytes ∙ ap (λ k. drop k bytes) place))

-- one pixel more
pub colours_more : (coding : Coding) (n : ℕ) (bytes : List ℕ) → row_colours coding (n + 1) bytes ≡ row_colours coding n bytes ++ colour_at coding bytes (n * pixel_size coding) ∷ []
colours_more coding n bytes =
    let place = n * pixel_size coding in
    colours_parts coding n 1 bytes
    ∙ ap (λ (c : ℕ). row_colours coding n bytes ++ c ∷ []) (colour_lies coding (drop place bytes) bytes place (λ i within. get_or-drop place bytes i 0))

-- a whole row more was decoded
row_on : (coding : Coding) (w stride : ℕ) (bytes part : List ℕ) (x y n : ℕ) → x + n ≤ w → Lie (n * pixel_size coding) part bytes (y * stride + x * pixel_size coding)
    → first_decoded coding w stride bytes (y * w + x) ++ row_colours coding n part ≡ first_decoded coding w stride bytes (y * w + (x + n))
row_on coding w stride bytes part x y zero within lie =
    append-nil (first_decoded coding w stride bytes (y * w + x)) ∙ ap (first_decoded coding w stride bytes) (let e : y * w + x ≡ y * w + (x + 0) = omega arith in e)
row_on coding w stride bytes part x y (suc n) within lie =
    let size = pixel_size coding in
    let place = y * stride + x * size in
    let first = first_decoded coding w stride bytes in
    let lies = more_lies size n (suc n * size) part bytes place (omega arith) lie in
    let rest = row_colours coding n (drop size part) in
    let next : place + size ≡ y * stride + (x + 1) * size = omega arith in
    let own : colour_at coding part 0 ≡ colour_at coding bytes place = colour_lies coding part bytes place (first_lies size (n * size) part bytes place lies) in
    let later : Lie (n * size) (drop size part) bytes (y * stride + (x + 1) * size) =
    λ i less. later_lies size (n * size) part bytes place lies i less ∙ ap (λ k. get_or bytes (k + i) 0) next in
    sym (append_assoc (first (y * w + x)) (colour_at coding part 0 ∷ []) rest)
    ∙ ap (λ (c : ℕ). (first (y * w + x) ++ c ∷ []) ++ rest) own
    ∙ ap (λ (front : List ℕ). front ++ rest) (sym (decoded_more coding w stride bytes x y (omega arith)))
    ∙ row_on coding w stride bytes (drop size part) (x + 1) y n (omega arith) later
    ∙ ap first (let e : y * w + (x + 1 + n) ≡ y * w + (x + suc n) = omega arith in e)

pub row_decoded : (coding : Coding) (w stride : ℕ) (bytes : List ℕ) (y : ℕ) → w * pixel_size coding ≤ stride
    → first_decoded coding w stride bytes (y * w) ++ row_colours coding w (slice_range bytes (y * stride) (y * stride + stride)) ≡ first_decoded coding w stride bytes ((y + 1) * w)
row_decoded coding w stride bytes y wide =
    let first = first_decoded coding w stride bytes in
    let place = y * stride in
    let part = slice_range bytes place (place + stride) in
    let lie : Lie (w * pixel_size coding) part bytes (place + 0 * pixel_size coding) =
    λ i less. get_or-take (place + stride - place) (drop place bytes) i 0 (omega arith) ∙ get_or-drop place bytes i 0 ∙ ap (λ k. get_or bytes (k + i) 0) (let e : place ≡ place + 0 * pixel_size coding = omega arith in e) in
    ap (λ k. first k ++ row_colours coding w part) (let e : y * w ≡ y * w + 0 = omega arith in e)
    ∙ row_on coding w stride bytes part 0 y w (omega arith) lie
    ∙ ap first (let e : y * w + (0 + w) ≡ (y + 1) * w = omega arith in e)

-- one step more of each loop
step_more : (initial was now one more whole : List ℕ) → was ≡ initial ++ one → now ≡ was ++ more → one ++ more ≡ whole → now ≡ initial ++ whole
step_more initial was now one more whole so_far step joined =
    step ∙ ap (λ (front : List ℕ). front ++ more) so_far ∙ append_assoc initial one more ∙ ap (λ (rest : List ℕ). initial ++ rest) joined

pub block_more : (coding : Coding) (pixels initial was now numbers : List ℕ) (block : ℕ) → was ≡ initial ++ coded_bytes coding (take (block * 16) pixels)
    → now ≡ was ++ coded_bytes coding numbers → numbers ≡ slice_range pixels (block * 16) (block * 16 + 16)
    → now ≡ initial ++ coded_bytes coding (take ((block + 1) * 16) pixels)
block_more coding pixels initial was now numbers block so_far step are =
    let at = block * 16 in
    let count : at + 16 - at ≡ 16 = omega arith in
    let next : at + 16 ≡ (block + 1) * 16 = omega arith in
    step_more initial was now (coded_bytes coding (take at pixels)) (coded_bytes coding numbers) (coded_bytes coding (take ((block + 1) * 16) pixels)) so_far step
    (ap (λ (ns : List ℕ). coded_bytes coding (take at pixels) ++ coded_bytes coding ns) (are ∙ ap (λ k. take k (drop at pixels)) count)
    ∙ sym (coded_parts coding pixels at 16) ∙ ap (λ k. coded_bytes coding (take k pixels)) next)

pub pixel_more : (coding : Coding) (pixels initial was now : List ℕ) (i pixel : ℕ) → i < length pixels → was ≡ initial ++ coded_bytes coding (take i pixels)
    → now ≡ was ++ pixel_bytes coding pixel → pixel ≡ get_or pixels i 0 → now ≡ initial ++ coded_bytes coding (take (i + 1) pixels)
pixel_more coding pixels initial was now i pixel within so_far step is =
    step_more initial was now (coded_bytes coding (take i pixels)) (pixel_bytes coding pixel) (coded_bytes coding (take (i + 1) pixels)) so_far step
    (ap (λ n. coded_bytes coding (take i pixels) ++ pixel_bytes coding n) is ∙ sym (coded_more coding pixels i within))

pub colours_block_more : (coding : Coding) (row initial was now : List ℕ) (block size : ℕ) → size ≡ 16 * pixel_size coding → was ≡ initial ++ row_colours coding (block * 16) row
    → now ≡ was ++ row_colours coding 16 (slice_range row (block * size) (block * size + size)) → now ≡ initial ++ row_colours coding ((block + 1) * 16) row
colours_block_more coding row initial was now block size is so_far step =
    let at = block * size in
    let place : at ≡ block * 16 * pixel_size coding = ap (λ k. block * k) is ∙ sym (mul_assoc block 16 (pixel_size coding)) in
    let next : block * 16 + 16 ≡ (block + 1) * 16 = omega arith in
    step_more initial was now (row_colours coding (block * 16) row) (row_colours coding 16 (slice_range row at (at + size))) (row_colours coding ((block + 1) * 16) row) so_far step
    (ap (λ (cs : List ℕ). row_colours coding (block * 16) row ++ cs)
    (colours_within coding 16 row at (at + size) (omega (arith, is)) ∙ ap (λ k. row_colours coding 16 (drop k row)) place)
    ∙ sym (colours_parts coding (block * 16) 16 row) ∙ ap (λ k. row_colours coding k row) next)

pub colour_more : (coding : Coding) (row initial was now : List ℕ) (x colour : ℕ) → was ≡ initial ++ row_colours coding x row → now ≡ was ++ colour ∷ []
    → colour ≡ colour_at coding row (x * pixel_size coding) → now ≡ initial ++ row_colours coding (x + 1) row
colour_more coding row initial was now x colour so_far step is =
    step_more initial was now (row_colours coding x row) (colour ∷ []) (row_colours coding (x + 1) row) so_far step
    (ap (λ (c : ℕ). row_colours coding x row ++ c ∷ []) is ∙ sym (colours_more coding x row))

-- all from a place on
to_end : (k : ℕ) (xs : List ℕ) → slice_range xs k (length xs) ≡ drop k xs
to_end k xs = take_all (length xs - k) (drop k xs) (let n = length-drop k xs in omega arith)

-- the two parts of all pixels, and of a row
pub parts_coded : (coding : Coding) (pixels none front all : List ℕ) (m : ℕ) → none ≡ [] → front ≡ none ++ coded_bytes coding (take m pixels)
    → all ≡ front ++ coded_bytes coding (slice_range pixels m (length pixels)) → all ≡ coded_bytes coding pixels
parts_coded coding pixels none front all m empty first second =
    second ∙ ap (λ (rest : List ℕ). front ++ coded_bytes coding rest) (to_end m pixels)
    ∙ ap (λ (bytes : List ℕ). bytes ++ coded_bytes coding (drop m pixels)) (first ∙ ap (λ (bytes : List ℕ). bytes ++ coded_bytes coding (take m pixels)) empty)
    ∙ coded_whole coding pixels m

pub parts_decoded : (coding : Coding) (row initial front all : List ℕ) (m n count place : ℕ) → m + n ≡ count → place ≡ m * pixel_size coding
    → front ≡ initial ++ row_colours coding m row → all ≡ front ++ row_colours coding n (slice_range row place (length row)) → all ≡ initial ++ row_colours coding count row
parts_decoded coding row initial front all m n count place sum at first second =
    step_more initial front all (row_colours coding m row) (row_colours coding n (drop place row)) (row_colours coding count row) first
    (second ∙ ap (λ (rest : List ℕ). front ++ row_colours coding n rest) (to_end place row))
    (ap (λ k. row_colours coding m row ++ row_colours coding n (drop k row)) at ∙ sym (colours_parts coding m n row) ∙ ap (λ k. row_colours coding k row) sum)

-- colours are numbers of 24 bits
abbrev pub Byte : ℕ → Type 0
Byte b = b < 256

abbrev pub Small : ℕ → Type 0
Small n = n < 2 ^ 24

pub all_bytes : (bytes : List ℕ) → ((i : ℕ) → Fits w8 (get_or bytes i 0)) → AllByRecursion Byte bytes
all_bytes [] fits = tt
all_bytes (b ∷ bytes) fits = ((fits 0).fits, all_bytes bytes (λ i. fits (suc i)))

byte_at : (bytes : List ℕ) (i : ℕ) → AllByRecursion Byte bytes → get_or bytes i 0 < 256
byte_at [] i small = omega arith
byte_at (b ∷ bytes) zero small = small.0
byte_at (b ∷ bytes) (suc i) small = byte_at bytes i small.1

bytes-drop : (n : ℕ) (bytes : List ℕ) → AllByRecursion Byte bytes → AllByRecursion Byte (drop n bytes)
bytes-drop zero bytes small = small
bytes-drop (suc n) [] small = tt
bytes-drop (suc n) (b ∷ bytes) small = bytes-drop n bytes small.1

colour_small : (coding : Coding) (bytes : List ℕ) → AllByRecursion Byte bytes → colour_at coding bytes 0 < 2 ^ 24
colour_small Exact bytes small =
    let r = byte_at bytes 2 small in
    let g = byte_at bytes 1 small in
    let b = byte_at bytes 0 small in
    omega (arith, r, g, b)
colour_small Lossy bytes small =
    let high = byte_at bytes 1 small in
    let low = byte_at bytes 0 small in
    let n = get_or bytes 1 0 * 256 + get_or bytes 0 0 in
    let r : n / 2048 < 32 = omega (arith, high, low) in
    let g : n / 32 % 64 < 64 = omega arith in
    let b : n % 32 < 32 = omega arith in
    omega (arith, r, g, b)

pub colours_small : (coding : Coding) (n : ℕ) (bytes : List ℕ) → AllByRecursion Byte bytes → AllByRecursion Small (row_colours coding n bytes)
colours_small coding zero bytes small = tt
colours_small coding (suc n) bytes small = (colour_small coding bytes small, colours_small coding n (drop (pixel_size coding) bytes) (bytes-drop (pixel_size coding) bytes small))

-- numbers that were written one by one
pub numbers_more : (numbers pixels : List ℕ) (i number : ℕ) → i < length numbers → i < length pixels → number ≡ get_or pixels i 0
    → take i numbers ≡ take i pixels → take (i + 1) (set numbers i number) ≡ take (i + 1) pixels
numbers_more numbers pixels i number within known is so_far =
    take_more_set numbers i number within ∙ ap (λ (front : List ℕ). front ++ number ∷ []) so_far
    ∙ ap (λ n. take i pixels ++ n ∷ []) is ∙ sym (take_more pixels i 0 known)

all_more : (xs : List ℕ) (x : ℕ) → AllByRecursion Small xs → x < 2 ^ 24 → AllByRecursion Small (xs ++ x ∷ [])
all_more [] x all own = (own, tt)
all_more (y ∷ xs) x all own = (all.0, all_more xs x all.1 own)

pub small_more : (numbers : List ℕ) (i number : ℕ) → i < length numbers → number < 2 ^ 24 → AllByRecursion Small (take i numbers) → AllByRecursion Small (take (i + 1) (set numbers i number))
small_more numbers i number within own so_far = subst (AllByRecursion Small) (sym (take_more_set numbers i number within)) (all_more (take i numbers) number so_far own)
