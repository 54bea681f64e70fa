-- Colours as numbers, with red in the high byte, then green, then blue, and what a coded pixel shows. This project's own rules.
use Rattle.std.specs.Prelude.{ℕ, ◌+◌, ◌*◌, ◌/◌, ◌%◌}
use Rattle.xp_base.specs.declared.coding.Coding.{Coding}
use Rattle.xp_base.specs.declared.coding.Coding.TheVariants.{Exact, Lossy}

abbrev pub red : ℕ → ℕ
red number = number / 65536

abbrev pub green : ℕ → ℕ
green number = number / 256 % 256

abbrev pub blue : ℕ → ℕ
blue number = number % 256

abbrev pub colour : ℕ → ℕ → ℕ → ℕ
colour r g b = r * 65536 + g * 256 + b

-- the lossy number of a colour: the five high bits of red, six of green and five of blue; the rest is cut, not rounded
abbrev pub lossy_number : ℕ → ℕ
lossy_number number = red number / 8 * 2048 + green number / 4 * 32 + blue number / 8

-- the colour that a lossy number shows: each channel's high bits come again as its low bits
abbrev pub expansion : ℕ → ℕ
expansion n = colour (red5 * 8 + red5 / 4) (green6 * 4 + green6 / 16) (blue5 * 8 + blue5 / 4) where
  red5 : ℕ
  red5 = n / 2048

  green6 : ℕ
  green6 = n / 32 % 64

  blue5 : ℕ
  blue5 = n % 32

-- the colour that a pixel shows once it was coded and decoded
abbrev pub shown : Coding → ℕ → ℕ
shown Exact number = number
shown Lossy number = expansion (lossy_number number)
