use Rattle.std.proofs.Common.{◌-◌, set, subst, sym, ap, ◌∙◌, arith}
use Rattle.std.proofs.lemmas.Option.{slice_get_within}
use Rattle.connection_table.specs.Tables.{Open}
use Rattle.connection_table.specs.Places.{slots_of, IsTable}
use Rattle.connection_table.specs.declared.place.Place.TheVariants as P
use Rattle.connection_table.proofs.Keeping.{out_at, some_out, back_slots, back_table}
use Rattle.connection_table.proofs.table.Table.put_back.Goals as goal

pub insert_reserved-key-requires : goal.insert_reserved-key-requires
insert_reserved-key-requires g c = let some = some_out c.self.inside.open c.self.inside.places.places c.self.inside.away c.args.number c.self.invariant (out_at c.self.inside.open c.self.inside.places.places c.self.inside.away c.args.number c.args.self.now.slots c.self.invariant (ap (λ table. table.slots) c.self.view_is) c.requires) in let room = c.self.invariant.spare in omega (arith, some, room)

pub set-requires : goal.set-requires
set-requires g c = slice_get_within c.self.inside.places.places c.args.number P.Away (out_at c.self.inside.open c.self.inside.places.places c.self.inside.away c.args.number c.args.self.now.slots c.self.invariant (ap (λ table. table.slots) c.self.view_is) c.requires)

pub overflow_sub-self : goal.overflow_sub-self
overflow_sub-self g c = some_out c.self.inside.open c.self.inside.places.places c.self.inside.away c.args.number c.self.invariant (out_at c.self.inside.open c.self.inside.places.places c.self.inside.away c.args.number c.args.self.now.slots c.self.invariant (ap (λ table. table.slots) c.self.view_is) c.requires)

pub invariant_of-self : goal.invariant_of-self
invariant_of-self g c = subst (λ places. IsTable c.insert_reserved-key.new.self places (c.self.inside.away - 1)) (sym (ap (λ list. list.places) c.set.ensures))
    (back_table c.self.inside.open c.insert_reserved-key.new.self c.self.inside.places.places c.self.inside.away c.args.number c.insert_reserved-key.result c.args.value c.self.invariant (out_at c.self.inside.open c.self.inside.places.places c.self.inside.away c.args.number c.args.self.now.slots c.self.invariant (ap (λ table. table.slots) c.self.view_is) c.requires) c.insert_reserved-key.ensures.was_vacant c.insert_reserved-key.ensures.updates c.insert_reserved-key.ensures.len c.insert_reserved-key.ensures.capacity)

pub returns : goal.returns
returns g c =
    ap (λ list. slots_of c.insert_reserved-key.new.self list.places) c.set.ensures
    ∙ back_slots c.self.inside.open c.insert_reserved-key.new.self c.self.inside.places.places c.self.inside.away c.args.number c.insert_reserved-key.result c.args.value c.self.invariant c.insert_reserved-key.ensures.was_vacant c.insert_reserved-key.ensures.updates
    ∙ ap (λ table. set table.slots c.args.number (Open c.args.value)) c.self.view_is
