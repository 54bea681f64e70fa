use Rattle.std.proofs.Common.{refl, sym, ap, ◌∙◌}
use Rattle.connection_table.specs.Tables.{Away, Ended}
use Rattle.open_connection.specs.Connection.{connection_in}
use Rattle.session_state.specs.Views.{known, slots_in}
use Rattle.session_state.proofs.Viewed.{view_set, view_away, taken_there}
use Rattle.session_state.proofs.Sends.{low_known, seen_open, ends_so}
use Rattle.session_state.proofs.state.State.end.Goals as goal

pub close-requires-clause-taken : goal.close-requires-clause-taken
close-requires-clause-taken g c =
    view_away c.take.new.self.slots c.args.c.0 (taken_there c.self.inside.table.slots c.take.new.self.slots c.args.c.0 c.in-Some.connection (sym c.take.ensures.value ∙ c.in-Some.is) c.in-Some.ensures.out)

pub close-requires-clause-known : goal.close-requires-clause-known
close-requires-clause-known g c = low_known (known g.B.Bay.tells g.B.Bay.provider g.B.Bay.connection) _ _ c.self.inside.table.slots c.args.c.0 c.in-Some.connection c.self.view_is c.requires.ready.counted refl (sym c.take.ensures.value ∙ c.in-Some.is)

pub returns-in-Some : goal.returns-in-Some
returns-in-Some g c = ends_so (known g.B.Bay.tells g.B.Bay.provider g.B.Bay.connection) c.args.c c.args.end _ c.args.self.now (slots_in c.take.new.self.slots) (slots_in c.close.new.table.slots) c.close.new.bay (connection_in c.in-Some.connection)
    c.self.view_is (seen_open c.self.inside.table.slots c.args.c.0 c.in-Some.connection c.take.result c.take.ensures.value c.in-Some.is)
    (ap slots_in c.in-Some.ensures.out ∙ view_set c.self.inside.table.slots c.args.c.0 Away)
    (ap slots_in c.close.ensures.slots ∙ view_set c.take.new.self.slots c.args.c.0 (Ended c.args.end)) c.close.ensures.connections c.close.ensures.provider
