-- What every session keeps, of its windows and of each connection that is open.
use Rattle.std.specs.Prelude.{ℕ, Bool, Option, List}
use Rattle.link_bay.specs.Connections.{ConnectionRecord}
use Rattle.window_model.specs.Desktop.{Window}
use Rattle.first_script.specs.declared.paint.Paint.{Paint}
use Rattle.client_connection.specs.declared.ends.End.{End}
use Rattle.client_connection.specs.Clients.{ClientSeen}
use Rattle.session_core.specs.Slots.{plain_clients, AreTold, AreKnown}
use Rattle.session_core.specs.State.{IsSession}

pub record IsSteady (tells : Bool) (connection : ℕ → ConnectionRecord) (lines : List Paint) (place : ℕ) (desk : List Window) (clients : List (Option ClientSeen)) (ends : List End) (count : ℕ) : Type 0 where
  pub session : IsSession lines place desk clients ends count
  pub told : AreTold connection desk (plain_clients clients)
  pub known : AreKnown tells connection lines desk (plain_clients clients)
