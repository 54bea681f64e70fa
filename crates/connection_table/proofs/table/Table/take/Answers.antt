use Rattle.std.proofs.Common.{ℕ, ◌+◌, ◌≤◌, set, length, length-set, subst, sym, ap, ◌∙◌}
use Rattle.std.specs.Prelude.{slice_get}
use Rattle.connection_table.specs.Tables.{Away}
use Rattle.connection_table.specs.Places.{slots_of, IsTable}
use Rattle.connection_table.specs.declared.place.Place.TheVariants as P
use Rattle.connection_table.proofs.Keeping.{away_slots, away_table, value_at, held_place, place_key, one_more_out}
use Rattle.connection_table.proofs.table.Table.take.Goals as goal

pub remove-value-requires : goal.remove-value-requires
remove-value-requires g c = c.self.invariant.kept c.args.number c.in_ok-key.key (place_key c.in_ok-key.key _ (held_place c.in_ok-key.key (slice_get c.self.inside.places.places c.args.number) (sym c.key_at.ensures ∙ c.in_ok-key.was)))

pub one_more-self-inside-requires : goal.one_more-self-inside-requires
one_more-self-inside-requires g c =
    subst (λ (long : ℕ). c.self.inside.away + 1 ≤ long)
    (sym (ap (λ list. length list.places) c.set.ensures ∙ length-set c.self.inside.places.places c.args.number P.Away))
    (one_more_out c.self.inside.open c.self.inside.places.places c.self.inside.away c.args.number c.in_ok-key.key c.self.invariant (held_place c.in_ok-key.key (slice_get c.self.inside.places.places c.args.number) (sym c.key_at.ensures ∙ c.in_ok-key.was)))

pub invariant_of-self : goal.invariant_of-self
invariant_of-self g c = subst (λ places. IsTable c.remove-value.new.self places c.one_more-self-inside.result) (sym (ap (λ list. list.places) c.set.ensures))
    (subst (λ away. IsTable c.remove-value.new.self (set c.self.inside.places.places c.args.number P.Away) away) (sym c.one_more-self-inside.ensures) (away_table c.self.inside.open c.remove-value.new.self c.self.inside.places.places c.self.inside.away c.args.number c.in_ok-key.key c.self.invariant (held_place c.in_ok-key.key (slice_get c.self.inside.places.places c.args.number) (sym c.key_at.ensures ∙ c.in_ok-key.was)) c.remove-value.ensures.updates c.remove-value.ensures.len c.remove-value.ensures.capacity))

pub returns-clause-value : goal.returns-clause-value
returns-clause-value g c =
    sym c.remove-value.ensures.value ∙ sym (value_at c.self.inside.open c.self.inside.places.places c.args.number c.in_ok-key.key c.args.self.now.slots (held_place c.in_ok-key.key (slice_get c.self.inside.places.places c.args.number) (sym c.key_at.ensures ∙ c.in_ok-key.was)) (ap (λ table. table.slots) c.self.view_is))

pub returns-clause-out : goal.returns-clause-out
returns-clause-out g c =
    ap (λ list. slots_of c.remove-value.new.self list.places) c.set.ensures
    ∙ away_slots c.self.inside.open c.remove-value.new.self c.self.inside.places.places c.self.inside.away c.args.number c.in_ok-key.key c.self.invariant (held_place c.in_ok-key.key (slice_get c.self.inside.places.places c.args.number) (sym c.key_at.ensures ∙ c.in_ok-key.was)) c.remove-value.ensures.updates
    ∙ ap (λ table. set table.slots c.args.number Away) c.self.view_is

pub returns-clause-none : goal.returns-clause-none
returns-clause-none g c = λ no. absurd (cc no)
