-- How many bytes a coding gives.
use Rattle.std.proofs.Common.{◌≡◌, ℕ, ◌*◌, List, [], ◌∷◌, length, refl, arith}
use Rattle.xp_base.specs.declared.coding.Coding.{Coding}
use Rattle.xp_base.specs.declared.coding.Coding.TheVariants.{Exact, Lossy}
use Rattle.rgb_encoders.specs.PixelBytes.{pixel_size, coded_bytes}

pub length-coded_bytes : (coding : Coding) (pixels : List ℕ) → length (coded_bytes coding pixels) ≡ length pixels * pixel_size coding
length-coded_bytes Exact [] = refl
length-coded_bytes Exact (x ∷ xs) = omega (arith, length-coded_bytes Exact xs)
length-coded_bytes Lossy [] = refl
length-coded_bytes Lossy (x ∷ xs) = omega (arith, length-coded_bytes Lossy xs)
