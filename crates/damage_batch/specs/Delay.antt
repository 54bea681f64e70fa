-- How long damage waits for its capture, in milliseconds. The numbers are this project's own.
use Rattle.std.specs.Prelude.{ℕ, ◌-◌, ◌*◌, ◌/◌, ◌≤◌, min, max, nat_le, if◌then◌else◌}
use Rattle.xp_base.specs.Clocks.{last_moment}

-- at first
abbrev pub first_delay : ℕ
first_delay = 20

-- a capture at a load of 32 or more doubles it, up to 500
abbrev pub delay_captured : ℕ → ℕ → ℕ
delay_captured load delay = if nat_le 32 load then min 500 (2 * delay) else delay

-- an acknowledgement that leaves a load of 8 or less takes a quarter of it away, down to 10
abbrev pub delay_acknowledged : ℕ → ℕ → ℕ
delay_acknowledged load delay = if nat_le load 8 then max 10 (delay - delay / 4) else delay

-- since when something is pending, by a clock that stops at 2 ^ 62, and the delay
pub record AreTimes (since delay : ℕ) : Type 0 where
  pub by_clock : since ≤ last_moment
  pub least : 10 ≤ delay
  pub greatest : delay ≤ 500
