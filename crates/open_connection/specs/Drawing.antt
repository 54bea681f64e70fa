-- A window is drawn at once for the client of a connection.
use Rattle.std.specs.Prelude.{ℕ, ◌≡◌, Option, Some, None}
use Rattle.window_model.specs.Desktop.{Window}
use Rattle.attached_client.specs.Client.{ClientSeen}
use Rattle.last_draws.specs.DrawnThrough.{DrawsWindow, IsNearer, OthersStay}
use Rattle.open_connection.specs.Connection.{ConnectionSeen}

-- the client of a connection before and after, where its hello was accepted; else there is none before or after
abbrev pub ForItsClient : (ClientSeen → ClientSeen → Type 0) → Option ClientSeen → Option ClientSeen → Type 0
ForItsClient Becomes None None = Unit {0}
ForItsClient Becomes None (Some c') = ⊥
ForItsClient Becomes (Some c) None = ⊥
ForItsClient Becomes (Some c) (Some c') = Becomes c c'

-- the window is drawn, and the sources of the others stay
abbrev pub DrawsAlone : Window → ℕ → ClientSeen → ClientSeen → Type 0
DrawsAlone window now c c' = DrawsWindow window now c c' × OthersStay window.wid c c'

-- a connection before and after a window was drawn at this moment
pub record ConnectionDraws (window : Window) (now : ℕ) (c c' : ConnectionSeen) : Type 0 where
  pub framing : c'.framing ≡ c.framing
  pub client : ForItsClient (DrawsAlone window now) c.client c'.client

-- where no packet waited before, one capture fewer of the window is left
abbrev pub ConnectionNearer : ℕ → ConnectionSeen → ConnectionSeen → Type 0
ConnectionNearer wid c c' = ForItsClient (IsNearer wid) c.client c'.client
