-- What a client is owed: what is to be captured for it, and what the draws repair that wait.
use Rattle.std.specs.Prelude.{ℕ, ◌==◌, ◌&&◌, ◌||◌, Bool, false, Option, Some, None}
use Rattle.std.specs.List.{list_any}
use Rattle.client_connection.specs.declared.packet.Draw.{Draw}
use Rattle.client_connection.specs.declared.source.Source.{Source}
use Rattle.client_connection.specs.PointSets.{has}
use Rattle.client_connection.specs.Clients.{ClientSeen}

abbrev pub draw_relieves : ℕ → ℕ → ℕ → Option Draw → Bool
draw_relieves wid x y None = false
draw_relieves wid x y (Some draw) = (draw.wid == wid) && has draw.relief x y

abbrev pub source_owes : ℕ → ℕ → ℕ → Source → Bool
source_owes wid x y s = (s.wid == wid) && has s.pending x y

abbrev pub client_owes : ℕ → ℕ → ℕ → ClientSeen → Bool
client_owes wid x y c = list_any (λ s. source_owes wid x y s) c.sources || list_any (λ p. draw_relieves wid x y p.draw) c.packets
