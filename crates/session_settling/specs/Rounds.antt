-- The rounds in which one connection is settled.
use Rattle.std.specs.Prelude.{ℕ, ◌-◌, Bool, true, false}

-- nothing was read in a round, nothing was written, and nothing is left to be drawn
abbrev pub rests : Bool → Bool → Bool → Bool
rests false waited clear = false
rests true true clear = false
rests true false clear = clear

-- How many captures of each window are left after a round: one fewer where nothing was read, and at most two in any case. Three stand
-- for what is not known yet: something may wait to be written.
abbrev pub captures_after : Bool → ℕ → ℕ
captures_after true captures = captures - 1
captures_after false captures = 2
