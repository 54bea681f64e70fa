-- A capture with its bytes.
use Rattle.std.specs.Prelude.{ℕ, ◌≡◌, List}
use Rattle.xp_base.specs.Captures.{Captured}
use Rattle.rgb_encoders.specs.PixelBytes.{coded_bytes}

pub record Encoding : Type 0 where
  pub capture : Captured
  pub bytes : List ℕ

-- a capture with the bytes that its coding gives its pixels
abbrev pub encoding_of : Captured → Encoding
encoding_of c = record { capture = c; bytes = coded_bytes c.coding c.pixels }

-- the bytes are those that the capture's coding gives its pixels
pub record IsEncoding (e : Encoding) : Type 0 where
  pub coded : e.bytes ≡ coded_bytes e.capture.coding e.capture.pixels
