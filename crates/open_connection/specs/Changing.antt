-- What a paint line is to a connection: a change of its client, where its hello was accepted, and else nothing.
use Rattle.std.specs.Prelude.{ℕ, ◌≡◌, Option, Some, None}
use Rattle.attached_client.specs.declared.change.Change.{Change}
use Rattle.attached_client.specs.declared.change.Prepared.{Prepared}
use Rattle.attached_client.specs.Client.{ClientSeen, Attachment}
use Rattle.attached_client.specs.Changes.{Fits, IsPrepared, ClientChanges}
use Rattle.open_connection.specs.Connection.{ConnectionSeen}

-- what the change needs of the client
abbrev pub FitsIn : Change → Option Attachment → Type 0
FitsIn change None = Unit {0}
FitsIn change (Some a) = Fits change a.client.seen

-- what was made of the client as it stands
abbrev pub IsPreparedIn : Change → ℕ → Option Attachment → Option Prepared → Type 0
IsPreparedIn change now None None = Unit {0}
IsPreparedIn change now None (Some p) = ⊥
IsPreparedIn change now (Some a) None = ⊥
IsPreparedIn change now (Some a) (Some p) = IsPrepared change now a p

-- a client before and after a change at this moment
abbrev pub ChangesIn : Change → ℕ → Option ClientSeen → Option ClientSeen → Type 0
ChangesIn change now None None = Unit {0}
ChangesIn change now None (Some c) = ⊥
ChangesIn change now (Some c) None = ⊥
ChangesIn change now (Some c) (Some c') = ClientChanges change now c c'

-- a connection before and after it
pub record ConnectionChanges (change : Change) (now : ℕ) (c c' : ConnectionSeen) : Type 0 where
  pub framing : c'.framing ≡ c.framing
  pub client : ChangesIn change now c.client c'.client
