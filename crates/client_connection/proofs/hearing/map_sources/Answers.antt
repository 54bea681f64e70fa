use Rattle.std.proofs.Common.{◌≡◌, arith, ap, ◌∙◌, sym}
use Rattle.std.proofs.lemmas.List.Edits.{map_over_more}
use Rattle.client_connection.specs.Clients.{mapped_source}
use Rattle.client_connection.proofs.hearing.map_sources.Goals as goal

pub loop-source-preserved : goal.loop-source-preserved
loop-source-preserved c =
    let is : c.map.new.self ≡ mapped_source c.args.wid c.source-item.result = c.map.ensures ∙ ap (mapped_source c.args.wid) (sym c.source-item.is) in
    rw is (map_over_more (mapped_source c.args.wid) _ _ c.loop-source.source-index c.source-item.result (omega arith) c.loop-source.invariant c.source-item.is)
