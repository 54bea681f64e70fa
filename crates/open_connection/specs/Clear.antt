-- Whether anything is left to be drawn for the client of a connection.
use Rattle.std.specs.Prelude.{Bool, false, Option, Some, None}
use Rattle.attached_client.specs.Client.{ClientSeen}
use Rattle.attached_client.specs.Clear.{is_clear_client}
use Rattle.open_connection.specs.Connection.{ConnectionSeen}

-- one whose hello was not accepted yet may have all still to come
abbrev pub is_clear_for : Option ClientSeen → Bool
is_clear_for None = false
is_clear_for (Some client) = is_clear_client client

abbrev pub is_clear_connection : ConnectionSeen → Bool
is_clear_connection c = is_clear_for c.client
