-- Clocks, in milliseconds.
use Rattle.std.specs.Prelude.{ℕ, ◌+◌, ◌-◌, ◌/◌, ◌^◌, ◌≤◌, min, max, List, [], ◌∷◌}

-- a clock in memory: the numbers that are left to give, the last that it gave, and the greatest; both 0 at first
pub record MemoryTime : Type 0 where
  pub left : List ℕ
  pub last : ℕ
  pub latest : ℕ

-- what it gives: the next of its numbers, and once they are used up the last again
abbrev pub next_moment : MemoryTime → ℕ
next_moment m = first_or m.left m.last where
  first_or : List ℕ → ℕ → ℕ
  first_or [] last = last
  first_or (moment ∷ left) last = moment

-- after that
abbrev pub after_moment : MemoryTime → MemoryTime
after_moment m = record { left = rest_of m.left; last = next_moment m; latest = max m.latest (next_moment m) } where
  rest_of : List ℕ → List ℕ
  rest_of [] = []
  rest_of (moment ∷ left) = left

-- a clock that counts its readings: what it gives next, and the greatest number that it gave
pub record CountedTime : Type 0 where
  pub next : ℕ
  pub latest : ℕ

-- the last moment of such a clock, at which it stays
abbrev pub last_moment : ℕ
last_moment = 2 ^ 62

-- what is kept between its readings
pub record IsCounted (c : CountedTime) : Type 0 where
  pub most : c.next ≤ last_moment
  pub given : c.latest ≤ c.next

-- after a reading
abbrev pub after_count : CountedTime → CountedTime
after_count c = record { next = min (c.next + 1) last_moment; latest = c.next }

-- the whole milliseconds from one moment to another, both in nanoseconds; 0 where the other is not later
abbrev pub milliseconds_between : ℕ → ℕ → ℕ
milliseconds_between start now = (now - start) / 1000000
