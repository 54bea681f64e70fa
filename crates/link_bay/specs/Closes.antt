-- How often the first connections were closed.
use Rattle.std.specs.Prelude.{ℕ, ◌+◌, ◌-◌, ◌^◌, min, if◌then◌else◌, nat_lt, List, [], ◌∷◌, slice_index, slice_set}

abbrev pub no_closes : List ℕ
no_closes = 0 ∷ 0 ∷ 0 ∷ 0 ∷ []

-- one of the first four was closed once more, or another one; each count stays at the greatest `u32` once there
abbrev pub closed_once : List ℕ → ℕ → List ℕ
closed_once closes c = if nat_lt c 4 then slice_set closes c (min (slice_index closes c + 1) (2 ^ 32 - 1)) else closes
