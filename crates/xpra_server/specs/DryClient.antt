-- What is known of the client of the provider that is slow to take anything.
use Rattle.std.specs.Prelude.{ℕ, zero, suc, Bool, true, false, Some, None}
use Rattle.link_bay.specs.declared.counters.Counters.{Counters}
use Rattle.link_bay.specs.Connections.{ConnectionRecord}
use Rattle.link_bay.specs.Counted.{mute_connection}

-- connection 0 is the client's, once it was accepted
abbrev pub dry_connection : Bool → Counters → ℕ → ConnectionRecord
dry_connection false k c = mute_connection None
dry_connection true k zero = mute_connection (Some k)
dry_connection true k (suc c) = mute_connection None
