-- The numbers of an attached client's jobs and draws. They ask for neither pixels nor what the client shows.
use Rattle.std.specs.Prelude.{ℕ, ◌≡◌, false, Option, Some, None, List, [], ◌∷◌, if◌then◌else◌}
use Rattle.std.specs.List.{flat_map}
use Rattle.delivery_model.specs.Grids.{points}
use Rattle.delivery_model.specs.Window.{Packet, Draws}
use Rattle.delivery_model.specs.Numbers.{IsNumbered}
use Rattle.client_outbox.specs.declared.draw.Draw.{Draw}
use Rattle.client_outbox.specs.Reliefs.{draws_in}
use Rattle.window_source.specs.Source.{SourceSeen, window_of}
use Rattle.window_source.specs.Waiting.{Queued}
use Rattle.client_delivery.specs.Attached.{AttachedSeen, find_source}

-- a draw by its number alone
abbrev pub numbered : Option Draw → List Packet
numbered None = []
numbered (Some d) = Draws (record { sequence = d.sequence; capture = record { rect = d.rect; coding = d.coding; pixels = [] }; relief = points 0 0 (λ x y. false) }) ∷ []

-- the window's draws that wait
abbrev pub numbered_on : ℕ → List Queued → List Packet
numbered_on k packets = flat_map (λ (p : Queued). if draws_in k p then numbered p.draw else []) packets

-- each window's numbers are in order, up to the next job's number
abbrev pub AreNumbered : ℕ → AttachedSeen → Type 0
AreNumbered next a = (k : ℕ) (s : SourceSeen) → find_source a.sources k ≡ Some s → IsNumbered next (window_of s [] None (numbered_on k a.out.packets))
