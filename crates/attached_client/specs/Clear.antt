-- Whether anything is left to be drawn for a client.
use Rattle.std.specs.Prelude.{Bool}
use Rattle.std.specs.List.{list_all}
use Rattle.window_source.specs.Owed.{is_clear}
use Rattle.attached_client.specs.Client.{ClientSeen}

-- nothing of any of its windows; draws may wait still
abbrev pub is_clear_client : ClientSeen → Bool
is_clear_client c = list_all is_clear c.seen.sources
