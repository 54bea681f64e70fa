use Rattle.std.proofs.Common.{◌≡◌, ◌++◌, map, take, drop}
use Rattle.client_connection.specs.Clients.{mapped_source}
use Rattle.client_connection.proofs.hearing.map_sources.Given as goal

abbrev pub invariant-loop-source : goal.invariant-loop-source
invariant-loop-source l =
    l.source-items ≡ map (mapped_source l.wid) (take l.source-index l.initial.source-items) ++ drop l.source-index l.initial.source-items
