-- Counts that only rise, and stay at the greatest `u64` once there.
use Rattle.std.specs.Prelude.{ℕ, ◌+◌, ◌-◌, ◌^◌, ◌≤◌, ◌≡◌, min, Bool, true, false}

-- the greatest number that a count can have
abbrev pub greatest : ℕ
greatest = 2 ^ 64 - 1

-- a sum of counts, kept at the greatest
abbrev pub count_sum : ℕ → ℕ → ℕ
count_sum before more = min (before + more) greatest

-- a count went up by at least so much, or stands at its greatest
pub record RoseBy (more before now : ℕ) : Type 0 where
  pub later : before ≤ now
  pub risen : count_sum before more ≤ now

-- a count went up, or stands at its greatest
pub record Rose (before now : ℕ) : Type 0 where
  pub later : before ≤ now
  pub risen : count_sum before 1 ≤ now

-- it went up where this is so, and stayed where it is not
abbrev pub RoseOnlyIf : Bool → ℕ → ℕ → Type 0
RoseOnlyIf true before now = Rose before now
RoseOnlyIf false before now = now ≡ before
