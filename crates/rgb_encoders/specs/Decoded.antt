-- The pixels of bytes in rows, where a row may have bytes past its pixels. This project's own rules.
use Rattle.std.specs.Prelude.{ℕ, ◌≡◌, ◌≢◌, ◌≤◌, ◌<◌, ◌+◌, ◌*◌, ◌/◌, ◌%◌, List, length, map, Result, Ok, Err}
use Rattle.std.specs.List.{range_with_len}
use Rattle.xp_base.specs.declared.coding.Coding.{Coding}
use Rattle.rgb_encoders.specs.declared.fault.DataFault.{DataFault}
use Rattle.rgb_encoders.specs.declared.fault.DataFault.TheVariants as F
use Rattle.rgb_encoders.specs.PixelBytes.{pixel_size, colour_at}

-- the colour in column x of row y, where each row begins so many bytes (the stride) after the row above
abbrev pub decoded_at : Coding → ℕ → List ℕ → ℕ → ℕ → ℕ
decoded_at coding stride bytes x y = colour_at coding bytes (y * stride + x * pixel_size coding)

-- the pixels of w columns and h rows, row by row: the k-th is in column k % w of row k / w
abbrev pub decoded : Coding → ℕ → ℕ → ℕ → List ℕ → List ℕ
decoded coding w h stride bytes = map (λ k. decoded_at coding stride bytes (k % w) (k / w)) (range_with_len 0 (w * h))

-- a row has room for its pixels, and there are h such rows; the last has its bytes past its pixels too
pub record HoldsPixels (coding : Coding) (w h stride : ℕ) (bytes : List ℕ) : Type 0 where
  pub wide : w * pixel_size coding ≤ stride
  pub high : length bytes ≡ stride * h

-- what decoding may answer: a stride that is too small comes before a wrong length, and want of memory last
abbrev pub DecodeGives : Coding → ℕ → ℕ → ℕ → List ℕ → Result (List ℕ) DataFault → Type 0
DecodeGives coding w h stride bytes (Ok pixels) =
    HoldsPixels coding w h stride bytes × (pixels ≡ decoded coding w h stride bytes)
DecodeGives coding w h stride bytes (Err (F.Stride n)) = (n ≡ stride) × (stride < w * pixel_size coding)
DecodeGives coding w h stride bytes (Err (F.Length n)) =
    (n ≡ length bytes) × (w * pixel_size coding ≤ stride) × (length bytes ≢ stride * h)
DecodeGives coding w h stride bytes (Err F.NoMemory) = HoldsPixels coding w h stride bytes
