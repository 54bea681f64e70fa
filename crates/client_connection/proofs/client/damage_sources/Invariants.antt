use Rattle.std.proofs.Common.{◌≡◌, ◌++◌, map, take, drop}
use Rattle.client_connection.specs.Clients.{damaged_source}
use Rattle.client_connection.proofs.client.damage_sources.Given as goal

abbrev pub invariant-loop-source : goal.invariant-loop-source
invariant-loop-source l =
    l.source-items ≡ map (damaged_source l.wid l.r) (take l.source-index l.initial.source-items) ++ drop l.source-index l.initial.source-items
