-- Worked examples of the definitions.
use Rattle.std.proofs.Common.{◌≡◌, [], ◌∷◌, refl}
use Rattle.xp_base.specs.declared.coding.Coding.TheVariants.{Exact, Lossy}
use Rattle.rgb_encoders.specs.Colour.{lossy_number, shown}
use Rattle.rgb_encoders.specs.PixelBytes.{pixel_bytes}
use Rattle.rgb_encoders.specs.Decoded.{decoded}

pub number_of_102030 : lossy_number 0x102030 ≡ 4358
number_of_102030 = refl

pub exact_bytes_of_102030 : pixel_bytes Exact 0x102030 ≡ 0x30 ∷ 0x20 ∷ 0x10 ∷ 255 ∷ []
exact_bytes_of_102030 = refl

pub lossy_bytes_of_102030 : pixel_bytes Lossy 0x102030 ≡ 0x06 ∷ 0x11 ∷ []
lossy_bytes_of_102030 = refl

pub exactly_shown_102030 : shown Exact 0x102030 ≡ 0x102030
exactly_shown_102030 = refl

pub lossily_shown_102030 : shown Lossy 0x102030 ≡ 0x102031
lossily_shown_102030 = refl

pub lossily_shown_white : shown Lossy 0xffffff ≡ 0xffffff
lossily_shown_white = refl

-- green is cut, not rounded
pub lossily_shown_green : shown Lossy 0x000703 ≡ 0x000400
lossily_shown_green = refl

-- two rows of one pixel and one further byte
pub decoded_rows : decoded Lossy 1 2 3 (0x06 ∷ 0x11 ∷ 9 ∷ 0xff ∷ 0xff ∷ 9 ∷ []) ≡ 0x102031 ∷ 0xffffff ∷ []
decoded_rows = refl

-- the fourth byte of an exact pixel is ignored
pub decoded_exact : decoded Exact 2 1 8 (0x30 ∷ 0x20 ∷ 0x10 ∷ 255 ∷ 3 ∷ 2 ∷ 1 ∷ 0 ∷ []) ≡ 0x102030 ∷ 0x010203 ∷ []
decoded_exact = refl
