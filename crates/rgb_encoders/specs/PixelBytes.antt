-- The bytes of a coded pixel, and the colour that bytes show. This project's own rules, with Xpra's names for them, BGRX and BGR565.
use Rattle.std.specs.Prelude.{ℕ, ◌+◌, ◌*◌, ◌/◌, ◌%◌, List, [], ◌∷◌, slice_index}
use Rattle.std.specs.List.{flat_map}
use Rattle.xp_base.specs.declared.coding.Coding.{Coding}
use Rattle.xp_base.specs.declared.coding.Coding.TheVariants.{Exact, Lossy}
use Rattle.rgb_encoders.specs.Colour.{red, green, blue, colour, lossy_number, expansion}

-- how many bytes a pixel has
abbrev pub pixel_size : Coding → ℕ
pixel_size Exact = 4
pixel_size Lossy = 2

-- exactly: blue, green, red, 255; lossily: the lossy number, its low byte first
abbrev pub pixel_bytes : Coding → ℕ → List ℕ
pixel_bytes Exact number = blue number ∷ green number ∷ red number ∷ 255 ∷ []
pixel_bytes Lossy number = lossy_number number % 256 ∷ lossy_number number / 256 ∷ []

-- the bytes of all pixels, row by row without a gap
abbrev pub coded_bytes : Coding → List ℕ → List ℕ
coded_bytes coding pixels = flat_map (pixel_bytes coding) pixels

-- the colour of the pixel whose bytes begin at this place; an exact pixel's fourth byte is ignored
abbrev pub colour_at : Coding → List ℕ → ℕ → ℕ
colour_at Exact bytes place = colour (slice_index bytes (place + 2)) (slice_index bytes (place + 1)) (slice_index bytes place)
colour_at Lossy bytes place = expansion (slice_index bytes (place + 1) * 256 + slice_index bytes place)
