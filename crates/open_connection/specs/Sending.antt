-- A write to a connection.
use Rattle.std.specs.Prelude.{ℕ, ◌≡◌, Option, Some, None}
use Rattle.std.specs.Option.{option_map}
use Rattle.link_bay.specs.Connections.{ConnectionRecord}
use Rattle.client_outbox.specs.declared.out.Out.{Out}
use Rattle.client_outbox.specs.declared.out.Out.TheVariants as O
use Rattle.attached_client.specs.Client.{ClientSeen, Attachment, client_in}
use Rattle.attached_client.specs.Sending.{ClientSends}
use Rattle.open_connection.specs.Connection.{OpenSeen, ConnectionSeen, connection_in}

-- to its client; nothing waits where no hello was accepted yet
abbrev pub SendsTo : ConnectionRecord → ConnectionRecord → Option ClientSeen → ℕ → Out → Option ClientSeen → Type 0
SendsTo line line' None max out None = (out ≡ O.Idle) × (line' ≡ line)
SendsTo line line' None max out (Some c) = ⊥
SendsTo line line' (Some c) max out None = ⊥
SendsTo line line' (Some c) max out (Some c') = ClientSends line line' c max out c'

-- what the provider knows of the connection, and the connection, before and after
pub record ConnectionSends (line line' : ConnectionRecord) (c : ConnectionSeen) (max : ℕ) (out : Out) (c' : ConnectionSeen) : Type 0 where
  pub framing : c'.framing ≡ c.framing
  pub client : SendsTo line line' c.client max out c'.client

-- the same of one of a provider's connections, to a client and to a connection with the room that they have
abbrev pub SendsThere : {B : Type 0} → (B → ℕ → ConnectionRecord) → B → B → ℕ → Option Attachment → ℕ → Out → Option Attachment → Type 0
SendsThere connection bay bay' k a max out a' = SendsTo (connection bay k) (connection bay' k) (option_map client_in a) max out (option_map client_in a')

abbrev pub SendsOn : {B : Type 0} → (B → ℕ → ConnectionRecord) → B → B → ℕ → OpenSeen → ℕ → Out → OpenSeen → Type 0
SendsOn connection bay bay' k o max out o' = ConnectionSends (connection bay k) (connection bay' k) (connection_in o) max out (connection_in o')
