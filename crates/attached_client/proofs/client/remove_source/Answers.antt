use Rattle.std.proofs.Common.{sym, ◌∙◌}
use Rattle.client_delivery.specs.Attached.{source_key}
use Rattle.attached_client.proofs.Places.{nothing_removed}
use Rattle.attached_client.proofs.client.remove_source.Goals as goal

pub returns-in-Some : goal.returns-in-Some
returns-in-Some c =
    c.remove.ensures.by_index.2
    ∙ c.keyed_places.ensures.removed source_key c.args.sources.now.items c.args.wid c.in-Some.place c.requires (sym (rw c.deref.ensures.value at c.in-Some.ensures.place))

pub returns-in_default : goal.returns-in_default
returns-in_default c =
    sym (nothing_removed c.args.sources.now.items c.args.wid (c.keyed_places.ensures.missing source_key c.args.sources.now.items c.args.wid (sym (rw c.deref.ensures.value at c.in_default.ensures.place))))
