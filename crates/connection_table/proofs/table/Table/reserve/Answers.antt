use Rattle.std.proofs.Common.{subst, sym}
use Rattle.connection_table.specs.Places.{IsTable}
use Rattle.connection_table.proofs.Keeping.{wider_table}
use Rattle.connection_table.proofs.table.Table.reserve.Goals as goal

pub invariant_of-self-in_err-reserve-2 : goal.invariant_of-self-in_err-reserve-2
invariant_of-self-in_err-reserve-2 g c = subst (λ places. IsTable c.reserve.new.self places c.self.inside.away) (sym c.reserve-2.ensures.same)
    (wider_table c.self.inside.open c.reserve.new.self c.self.inside.places.places c.self.inside.away c.self.invariant c.reserve.ensures.rest_kept c.reserve.ensures.capacity)

pub invariant_of-self-2 : goal.invariant_of-self-2
invariant_of-self-2 g c = subst (λ places. IsTable c.reserve.new.self places c.self.inside.away) (sym c.reserve-2.ensures.same)
    (wider_table c.self.inside.open c.reserve.new.self c.self.inside.places.places c.self.inside.away c.self.invariant c.reserve.ensures.rest_kept c.reserve.ensures.capacity)
