-- What settling leaves of a connection that it ends `Settled`.
use Rattle.std.specs.Prelude.{ℕ, ◌≡◌, true, IsSomeAnd, Option, Some, None, List, []}
use Rattle.window_model.specs.Desktop.{Window, has_window}
use Rattle.client_connection.specs.declared.source.Source.{Source}
use Rattle.client_connection.specs.PointSets.{HasNone}
use Rattle.client_connection.specs.Clients.{ClientSeen}
use Rattle.client_connection.specs.Delivery.{find_source}

-- of a window that is mapped nothing is pending
abbrev pub IsCleanAt : List Source → ℕ → Type 0
IsCleanAt sources wid = (s : Source) → find_source sources wid ≡ Some s → s.mapped ≡ true → HasNone s.pending

-- the sources that a connection has, where it is open
abbrev pub sources_in : Option ClientSeen → List Source
sources_in None = []
sources_in (Some c) = c.sources

-- the same of each window of the desktop
abbrev pub AreClean : List Window → Option ClientSeen → Type 0
AreClean desk slot = (wid : ℕ) → has_window desk wid ≡ true → IsCleanAt (sources_in slot) wid

-- nothing waits to be written
abbrev pub WaitsForNothing : Option ClientSeen → Type 0
WaitsForNothing slot = (c : ClientSeen) → slot ≡ Some c → c.packets ≡ []

-- an open connection whose hello was accepted, for which nothing waits, and of whose mapped windows nothing is pending
pub record IsCalm (desk : List Window) (slot : Option ClientSeen) : Type 0 where
  pub attached : IsSomeAnd slot (λ (c : ClientSeen). c.greeted ≡ true)
  pub sent : WaitsForNothing slot
  pub clean : AreClean desk slot
