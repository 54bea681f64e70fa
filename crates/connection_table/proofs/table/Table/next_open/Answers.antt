use Rattle.std.proofs.Common.{length, sym, ap, ◌∙◌, arith}
use Rattle.std.proofs.lemmas.List.{length-map}
use Rattle.connection_table.specs.Tables.{Table}
use Rattle.connection_table.specs.Places.{slot_of}
use Rattle.connection_table.proofs.Next.{none_yet, one_further, none_from, next_open, not_open}
use Rattle.connection_table.proofs.table.Table.next_open.Goals as goal

pub loop-number-init : goal.loop-number-init
loop-number-init g c = (omega arith, none_yet c.args.self.now.slots c.args.from)

pub returns-then-is_some-clause-some : goal.returns-then-is_some-clause-some
returns-then-is_some-clause-some g c = next_open c.args.self.now.slots c.args.from c.loop-number.number c.loop-number.invariant.0 c.loop-number.invariant.1 c.get.result c.get.ensures (sym c.is_some.ensures ∙ c.if-is_some.true)

pub loop-number-preserved : goal.loop-number-preserved
loop-number-preserved g c =
    let low = c.loop-number.invariant.0 in
    (omega (arith, low), one_further c.args.self.now.slots c.args.from c.loop-number.number c.loop-number.invariant.1 (not_open c.get.result _ c.get.ensures (sym c.is_some.ensures ∙ c.if-is_some.false)))

pub returns-clause-none : goal.returns-clause-none
returns-clause-none g c = λ no.
    none_from c.args.self.now.slots c.args.from c.loop-number.number c.loop-number.invariant.1
    (let long = ap (λ (table : Table _ _). length table.slots) (sym c.self.view_is) ∙ length-map c.self.inside.places.places (slot_of c.self.inside.open) in let end = c.loop-number-test.false in let count = c.len.ensures in omega (arith, long, end, count))
