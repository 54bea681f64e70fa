-- Pixels whose bytes lie one behind another.
use Rattle.std.specs.Prelude.{ℕ, zero, suc, List, [], ◌∷◌, drop}
use Rattle.xp_base.specs.declared.coding.Coding.{Coding}
use Rattle.rgb_encoders.specs.PixelBytes.{pixel_size, colour_at}

-- the colours of so many pixels, whose bytes these begin with
abbrev pub row_colours : Coding → ℕ → List ℕ → List ℕ
row_colours coding zero bytes = []
row_colours coding (suc count) bytes = colour_at coding bytes 0 ∷ row_colours coding count (drop (pixel_size coding) bytes)
