-- Laws of the codings.
use Rattle.std.specs.Prelude.{ℕ, ◌≡◌, ◌<◌, ◌*◌, ◌^◌, List, length, map, Some}
use Rattle.std.specs.Option.{option_map}
use Rattle.xp_base.specs.declared.coding.Coding.{Coding}
use Rattle.xp_base.specs.Captures.{Captured}
use Rattle.xp_base.specs.Grid.{number_at}
use Rattle.rgb_encoders.specs.Colour.{shown}
use Rattle.rgb_encoders.specs.PixelBytes.{pixel_size, coded_bytes}
use Rattle.rgb_encoders.specs.Decoded.{decoded_at, decoded, HoldsPixels}
use Rattle.rgb_encoders.specs.Encoding.{Encoding}

-- how far apart the rows of a capture's bytes are
abbrev pub row_stride : Captured → ℕ
row_stride c = c.rect.w * pixel_size c.coding

-- as many bytes as the coding has for so many pixels
abbrev pub CodedLength : Type 0
CodedLength = (coding : Coding) (pixels : List ℕ) → length (coded_bytes coding pixels) ≡ length pixels * pixel_size coding

-- decoding what was coded shows each pixel
abbrev pub DecodedShows : Type 0
DecodedShows =
    (coding : Coding) (w h : ℕ) (pixels : List ℕ) → length pixels ≡ w * h
    → decoded coding w h (w * pixel_size coding) (coded_bytes coding pixels) ≡ map (shown coding) pixels

-- one pixel for each point
abbrev pub DecodedLength : Type 0
DecodedLength = (coding : Coding) (w h stride : ℕ) (bytes : List ℕ) → length (decoded coding w h stride bytes) ≡ w * h

-- the number at each point
abbrev pub DecodedPoint : Type 0
DecodedPoint =
    (coding : Coding) (w h stride : ℕ) (bytes : List ℕ) (x y : ℕ) → x < w → y < h
    → number_at w h (decoded coding w h stride bytes) x y ≡ Some (decoded_at coding stride bytes x y)

-- what a colour shows is a colour
abbrev pub ShownColour : Type 0
ShownColour = (coding : Coding) (number : ℕ) → number < 2 ^ 24 → shown coding number < 2 ^ 24

-- its bytes are pixels of the capture's sides, and show each pixel of the capture
pub record Shows (e : Encoding) : Type 0 where
  pub fits : HoldsPixels e.capture.coding e.capture.rect.w e.capture.rect.h (row_stride e.capture) e.bytes
  pub shows :
      decoded e.capture.coding e.capture.rect.w e.capture.rect.h (row_stride e.capture) e.bytes ≡ map (shown e.capture.coding) e.capture.pixels
  pub points :
      (x y : ℕ)
      → number_at e.capture.rect.w e.capture.rect.h (decoded e.capture.coding e.capture.rect.w e.capture.rect.h (row_stride e.capture) e.bytes) x y
      ≡ option_map (shown e.capture.coding) (number_at e.capture.rect.w e.capture.rect.h e.capture.pixels x y)
