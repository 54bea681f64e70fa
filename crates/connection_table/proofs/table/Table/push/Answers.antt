use Rattle.std.proofs.Common.{[], ◌∷◌, ◌++◌, subst, sym, ap, ◌∙◌, arith}
use Rattle.connection_table.specs.Tables.{Open}
use Rattle.connection_table.specs.Places.{slots_of, IsTable}
use Rattle.connection_table.proofs.Keeping.{pushed_slots, pushed_table}
use Rattle.connection_table.proofs.table.Table.push.Goals as goal

pub returns : goal.returns
returns g c =
    ap (λ list. slots_of c.insert_reserved-key.new.self list.places) c.push.ensures
    ∙ pushed_slots c.self.inside.open c.insert_reserved-key.new.self c.self.inside.places.places c.self.inside.away c.insert_reserved-key.result c.args.value c.self.invariant c.insert_reserved-key.ensures.was_vacant c.insert_reserved-key.ensures.updates
    ∙ ap (λ table. table.slots ++ Open c.args.value ∷ []) c.self.view_is

pub invariant_of-self : goal.invariant_of-self
invariant_of-self g c = subst (λ places. IsTable c.insert_reserved-key.new.self places c.self.inside.away) (sym (ap (λ list. list.places) c.push.ensures))
    (pushed_table c.self.inside.open c.insert_reserved-key.new.self c.self.inside.places.places c.self.inside.away c.insert_reserved-key.result c.args.value c.self.invariant c.insert_reserved-key.ensures.was_vacant c.insert_reserved-key.ensures.updates
    c.insert_reserved-key.ensures.len (let room = c.requires in let seen = ap (λ table. table.room) c.self.view_is in let same = c.insert_reserved-key.ensures.capacity in omega (arith, room, seen, same)))
