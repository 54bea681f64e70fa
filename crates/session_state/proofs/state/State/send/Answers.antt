use Rattle.std.proofs.Common.{◌<◌, refl, sym, ap, ◌∙◌, subst}
use Rattle.connection_table.specs.Tables.{Away}
use Rattle.open_connection.specs.Connection.{connection_in}
use Rattle.session_state.specs.Views.{known, slots_in}
use Rattle.session_state.proofs.Viewed.{view_set, taken_there}
use Rattle.session_state.proofs.Sends.{low_known, seen_open, sends_so}
use Rattle.session_state.proofs.state.State.send.Goals as goal

pub keep_or_close-requires-clause-taken : goal.keep_or_close-requires-clause-taken
keep_or_close-requires-clause-taken g c = taken_there c.self.inside.table.slots c.take.new.self.slots c.args.c.0 c.in-Some.connection (sym c.take.ensures.value ∙ c.in-Some.is) c.in-Some.ensures.out

pub keep_or_close-requires-clause-known : goal.keep_or_close-requires-clause-known
keep_or_close-requires-clause-known g c = subst (λ p. c.args.c.0 < p.count) (sym c.send-out.ensures.provider)
    (low_known (known g.B.Bay.tells g.B.Bay.provider g.B.Bay.connection) _ _ c.self.inside.table.slots c.args.c.0 c.in-Some.connection c.self.view_is c.requires.ready.counted refl (sym c.take.ensures.value ∙ c.in-Some.is))

pub returns : goal.returns
returns g c = sends_so (known g.B.Bay.tells g.B.Bay.provider g.B.Bay.connection) c.args.c c.args.max _ c.args.self.now (slots_in c.take.new.self.slots) c.send-out.new.bay (connection_in c.in-Some.connection) (connection_in c.send-out.new.self) c.send-out.result c.answer_to.result c.keep_or_close.new.self
    c.self.view_is (seen_open c.self.inside.table.slots c.args.c.0 c.in-Some.connection c.take.result c.take.ensures.value c.in-Some.is)
    (ap slots_in c.in-Some.ensures.out ∙ view_set c.self.inside.table.slots c.args.c.0 Away)
    c.send-out.ensures.answer c.send-out.ensures.others c.send-out.ensures.provider c.keep_or_close.ensures.connections c.keep_or_close.ensures.provider c.answer_to.ensures c.keep_or_close.ensures.state
