-- The numbers of jobs and of draws. They are given from 1 on and never used again.
use Rattle.std.specs.Prelude.{ℕ, ◌+◌, ◌≡◌, ◌≤◌, ◌⊎◌, Option, Some, None, List, [], ◌∷◌, map, length}
use Rattle.xp_base.specs.Captures.{Captured}
use Rattle.delivery_model.specs.Window.{Job, Draw, Sent, Window}
use Rattle.delivery_model.specs.Events.{Event, Capture}
use Rattle.delivery_model.specs.Invariant.{draws_of}

-- a job in hand has this number and this capture
abbrev pub HasJob : List Job → ℕ → Captured → Type 0
HasJob [] k capture = ⊥
HasJob (j ∷ jobs) k capture = ((j.number ≡ k) × (j.capture ≡ capture)) ⊎ HasJob jobs k capture

abbrev pub IsInHand : Option Window → ℕ → Captured → Type 0
IsInHand None k capture = ⊥
IsInHand (Some w) k capture = HasJob w.jobs k capture

-- captures number their jobs from here on
abbrev pub NumbersFrom : ℕ → Event → Type 0
NumbersFrom next (Capture plan first) = next ≤ first
NumbersFrom next e = Unit {0}

abbrev pub AllNumberFrom : ℕ → List Event → Type 0
AllNumberFrom next [] = Unit {0}
AllNumberFrom next (e ∷ events) = NumbersFrom next e × AllNumberFrom next events

-- no job in hand has the number
abbrev pub IsGone : Option Window → ℕ → Type 0
IsGone o k = (capture : Captured) → IsInHand o k capture → ⊥

-- the numbers rise, from this one on, and stay below the next one: so no two are the same
abbrev pub Rise : ℕ → ℕ → List ℕ → Type 0
Rise low next [] = low ≤ next
Rise low next (k ∷ ks) = (low ≤ k) × Rise (k + 1) next ks

-- where jobs are numbered below this one: the numbers of jobs in hand rise, and the sequence numbers of waiting and of
-- unacknowledged draws; and there are as many numbers left as the jobs in hand will need
pub record IsNumbered (next : ℕ) (w : Window) : Type 0 where
  pub jobs : Rise 0 next (map (λ (j : Job). j.number) w.jobs)
  pub waiting : Rise 0 w.next_sequence (map (λ (d : Draw). d.sequence) (draws_of w.packets))
  pub unacknowledged : Rise 0 w.next_sequence (map (λ (s : Sent). s.sequence) w.unacknowledged)
  pub room : w.next_sequence + length w.jobs ≤ next

abbrev pub NumberedWhereThere : ℕ → Option Window → Type 0
NumberedWhereThere next None = Unit {0}
NumberedWhereThere next (Some w) = IsNumbered next w

-- the next job number after an event
abbrev pub next_after : ℕ → Event → ℕ
next_after next (Capture plan first) = first + length plan
next_after next e = next
