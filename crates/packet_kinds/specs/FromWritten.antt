-- A client's messages as bytes.
use Rattle.std.specs.Prelude.{ℕ, ◌≡◌, None, Ok, List}
use Rattle.bencode_values.specs.declared.value.Value.{Value}
use Rattle.packet_frames.specs.Written.{packet_bytes, MayBeWritten, IsWithin}
use Rattle.packet_kinds.specs.declared.from_client.FromClient.{FromClient}
use Rattle.packet_kinds.specs.FromClients.{from_value}
use Rattle.packet_kinds.specs.FromShapes.{from_client}

-- the bytes of a message
abbrev pub client_bytes : FromClient → List ℕ
client_bytes m = packet_bytes (from_value m) None

-- the bytes are a packet of at most this size that is read as this message
pub record IsClientMessage (limit : ℕ) (bytes : List ℕ) (m : FromClient) : Type 0 where
  pub value : Value
  pub written : MayBeWritten value None
  pub within : IsWithin limit value None
  pub bytes_are : bytes ≡ packet_bytes value None
  pub read : from_client value ≡ Ok m
