-- A session as its steps see it, and what is known of its provider of connections.
use Rattle.std.specs.Prelude.{ℕ, ◌≡◌, ◌<◌, ◌≤◌, max, min, Bool, List}
use Rattle.xp_base.specs.Clocks.{last_moment}
use Rattle.link_bay.specs.Connections.{ConnectionRecord}
use Rattle.link_bay.specs.Provider.{ProviderRecord}
use Rattle.window_model.specs.Desktop.{Window}
use Rattle.connection_table.specs.Tables.{Slot}
use Rattle.connection_ends.specs.declared.end.End.{End}
use Rattle.open_connection.specs.Connection.{ConnectionSeen}

-- whether the provider tells the bytes of its connections, what is known of it, and of each connection by its number
pub record Known (B : Type 0) : Type 0 where
  pub tells : Bool
  pub provider : B → ProviderRecord
  pub connection : B → ℕ → ConnectionRecord

-- the desktop, the clock in milliseconds, the connections by their numbers, how many packets of clients were ignored (at most
-- `greatest`), whether a hello was accepted, whether an accept failed, and the provider
pub record Seen (B : Type 0) : Type 0 where
  pub desk : List Window
  pub clock : ℕ
  pub slots : List (Slot ConnectionSeen End)
  pub ignored : ℕ
  pub greeted : Bool
  pub accept_failed : Bool
  pub bay : B

-- the clock never goes back, and stays at its last moment
abbrev pub ticked : {B : Type 0} → ℕ → Seen B → Seen B
ticked moment s = record s { clock = max s.clock (min moment last_moment) }

-- the provider, and all connections that it handed out, are known as before
pub record IsAsBefore {B : Type 0} (known : Known B) (bay bay' : B) : Type 0 where
  pub provider : known.provider bay' ≡ known.provider bay
  pub connections : (j : ℕ) → j < (known.provider bay).count → known.connection bay' j ≡ known.connection bay j
