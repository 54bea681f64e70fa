use Rattle.std.proofs.Common.{◌≡◌, arith, ap, ◌∙◌, sym}
use Rattle.std.proofs.lemmas.List.Edits.{map_over_more}
use Rattle.client_connection.specs.Clients.{damaged_source}
use Rattle.client_connection.proofs.client.damage_sources.Goals as goal

pub loop-source-preserved : goal.loop-source-preserved
loop-source-preserved c =
    let is : c.damage.new.self ≡ damaged_source c.args.wid c.args.r c.source-item.result = c.damage.ensures ∙ ap (damaged_source c.args.wid c.args.r) (sym c.source-item.is) in
    rw is (map_over_more (damaged_source c.args.wid c.args.r) _ _ c.loop-source.source-index c.source-item.result (omega arith) c.loop-source.invariant c.source-item.is)
