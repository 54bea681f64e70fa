use Rattle.std.proofs.Common.{sym, ap, ◌∙◌}
use Rattle.connection_table.specs.Tables.{open_count}
use Rattle.connection_table.proofs.Next.{held_count}
use Rattle.connection_table.proofs.table.Table.open_count.Goals as goal

pub returns : goal.returns
returns g c =
    c.len.ensures ∙ c.self.invariant.counted ∙ sym (held_count c.self.inside.open c.self.inside.places.places c.self.invariant.kept) ∙ ap (λ table. open_count table.slots) c.self.view_is
