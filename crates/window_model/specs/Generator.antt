-- The generator of numbers that noise is made of. This project's own.
use Rattle.std.specs.Prelude.{ℕ, ◌+◌, ◌*◌, ◌/◌, ◌%◌, ◌^◌, List, [], ◌∷◌, zero, suc}

-- the state after one step: a linear congruence modulo 2^64
unfoldable pub next_state : ℕ → ℕ
next_state state = (state * 6364136223846793005 + 1442695040888963407) % 2 ^ 64

-- the number that a state gives: its upper 31 bits
abbrev pub number_of : ℕ → ℕ
number_of state = state / 2 ^ 33

-- the pixel that a state gives
abbrev pub colour_of : ℕ → ℕ
colour_of state = number_of state % 2 ^ 24

-- so many pixels, each by one step from the state before
abbrev pub noise : ℕ → ℕ → List ℕ
noise state zero = []
noise state (suc count) = colour_of (next_state state) ∷ noise (next_state state) count
