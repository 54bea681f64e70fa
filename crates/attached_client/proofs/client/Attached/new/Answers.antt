use Rattle.std.proofs.Common.{map, ap, sym, ◌∙◌, subst}
use Rattle.std.proofs.lemmas.List.{take_all}
use Rattle.xp_base.specs.Keyed.{HasDistinctKeys}
use Rattle.client_delivery.specs.Attached.{source_key, started_source}
use Rattle.attached_client.proofs.Begun.{distinct_begun}
use Rattle.attached_client.proofs.client.Attached.new.Goals as goal

pub invariant_of-result : goal.invariant_of-result
invariant_of-result c =
    let begun = c.loop-window.invariant in
    let all = take_all c.loop-window.window-index c.args.desk.now (rw c.as_slice-window-items.ensures at c.loop-window-test.false) in
    let sources = begun.sources_are ∙ ap (map (started_source c.args.conn.0 c.args.now)) all in
    subst (HasDistinctKeys source_key) (sym sources) (distinct_begun c.args.conn.0 c.args.now c.args.desk.now c.len-windows.ensures.kept.distinct)
