use Rattle.std.proofs.Common.{◌-◌, set, subst, sym, ap, ◌∙◌}
use Rattle.std.proofs.lemmas.Option.{slice_get_within}
use Rattle.connection_table.specs.Tables.{Ended}
use Rattle.connection_table.specs.Places.{slots_of, IsTable}
use Rattle.connection_table.specs.declared.place.Place.TheVariants as P
use Rattle.connection_table.proofs.Keeping.{out_at, some_out, ended_slots, ended_table}
use Rattle.connection_table.proofs.table.Table.end.Goals as goal

pub set-requires : goal.set-requires
set-requires g c = slice_get_within c.self.inside.places.places c.args.number P.Away (out_at c.self.inside.open c.self.inside.places.places c.self.inside.away c.args.number c.args.self.now.slots c.self.invariant (ap (λ table. table.slots) c.self.view_is) c.requires)

pub overflow_sub-self : goal.overflow_sub-self
overflow_sub-self g c = some_out c.self.inside.open c.self.inside.places.places c.self.inside.away c.args.number c.self.invariant (out_at c.self.inside.open c.self.inside.places.places c.self.inside.away c.args.number c.args.self.now.slots c.self.invariant (ap (λ table. table.slots) c.self.view_is) c.requires)

pub invariant_of-self : goal.invariant_of-self
invariant_of-self g c = subst (λ places. IsTable c.self.inside.open places (c.self.inside.away - 1)) (sym (ap (λ list. list.places) c.set.ensures))
    (ended_table c.self.inside.open c.self.inside.places.places c.self.inside.away c.args.number c.args.ended c.self.invariant (out_at c.self.inside.open c.self.inside.places.places c.self.inside.away c.args.number c.args.self.now.slots c.self.invariant (ap (λ table. table.slots) c.self.view_is) c.requires))

pub returns : goal.returns
returns g c =
    ap (λ list. slots_of c.self.inside.open list.places) c.set.ensures
    ∙ ended_slots c.self.inside.open c.self.inside.places.places c.args.number c.args.ended
    ∙ ap (λ table. set table.slots c.args.number (Ended c.args.ended)) c.self.view_is
