-- A capture of a window, which is drawn whole.
use Rattle.std.specs.Prelude.{ℕ, ◌<◌, ◌≤◌, ◌^◌, ◌≡◌, ◌==◌, true, false, Some, None, position, slice_get}
use Rattle.window_model.specs.Desktop.{Window}
use Rattle.client_connection.specs.declared.answers.Captured.{Captured}
use Rattle.client_connection.specs.declared.answers.Captured.TheVariants as C
use Rattle.client_connection.specs.declared.source.Source.{Source}
use Rattle.client_connection.specs.PointSets.{HasNone}
use Rattle.client_connection.specs.Clients.{ClientSeen, captured}

-- the source of a window: its place, and what is there
abbrev pub HasSource : ℕ → ClientSeen → ℕ → Source → Type 0
HasSource wid c place s = (position (λ s. s.wid == wid) c.sources ≡ Some place) × (slice_get c.sources place ≡ Some s)

-- a capture of a window of the desktop, for a client
abbrev pub CapturesWindow : Window → ClientSeen → Captured → ClientSeen → Type 0
CapturesWindow window c C.Closed c' = (position (λ s. s.wid == window.wid) c.sources ≡ None) × (c' ≡ c)
CapturesWindow window c C.Unmapped c' = (place : ℕ) × (s : Source) × HasSource window.wid c place s × (s.mapped ≡ false) × (c' ≡ c)
CapturesWindow window c C.Clean c' = (place : ℕ) × (s : Source) × HasSource window.wid c place s × (s.mapped ≡ true) × HasNone s.pending × (c' ≡ c)
CapturesWindow window c (C.Early moment) c' = ⊥
CapturesWindow window c (C.Congested load) c' = ⊥
CapturesWindow window c (C.Heavy weight) c' = ⊥
CapturesWindow window c C.Spent c' = (place : ℕ) × (s : Source) × HasSource window.wid c place s
    × (s.mapped ≡ true) × (HasNone s.pending → ⊥) × (2 ^ 62 ≤ s.next_sequence) × (c' ≡ c)
CapturesWindow window c C.NoMemory c' = (place : ℕ) × (s : Source) × HasSource window.wid c place s
    × (s.mapped ≡ true) × (HasNone s.pending → ⊥) × (s.next_sequence < 2 ^ 62) × (c' ≡ c)
CapturesWindow window c (C.Jobs n) c' = (place : ℕ) × (s : Source) × HasSource window.wid c place s
    × (s.mapped ≡ true) × (HasNone s.pending → ⊥) × (s.next_sequence < 2 ^ 62) × (n ≡ 1) × (c' ≡ captured window place s c)
