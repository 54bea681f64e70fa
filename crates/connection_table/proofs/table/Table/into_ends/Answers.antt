use Rattle.std.proofs.Common.{sym, ap, ◌∙◌}
use Rattle.connection_table.specs.Tables.{ends_of}
use Rattle.connection_table.proofs.Ends.{ends_slots}
use Rattle.connection_table.proofs.table.Table.into_ends.Goals as goal

pub returns : goal.returns
returns g c = c.into_ends.ensures ∙ sym (ends_slots c.self.inside.open c.self.inside.places.places) ∙ ap (λ table. ends_of table.slots) c.self.view_is
