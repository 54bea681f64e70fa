-- A write to a client.
use Rattle.std.specs.Prelude.{ℕ, ◌≡◌}
use Rattle.link_bay.specs.Connections.{ConnectionRecord}
use Rattle.client_outbox.specs.Sending.{SendGives}
use Rattle.client_outbox.specs.declared.out.Out.{Out}
use Rattle.attached_client.specs.Client.{ClientSeen}

-- the connection and the client, before and after: the packets that wait are as the outbox leaves them, and all else stays
pub record ClientSends (line line' : ConnectionRecord) (c : ClientSeen) (max : ℕ) (out : Out) (c' : ClientSeen) : Type 0 where
  pub sends : SendGives line line' c.seen.out c'.seen.out max out
  pub stays : c' ≡ record c { seen = record c.seen { out = c'.seen.out } }
