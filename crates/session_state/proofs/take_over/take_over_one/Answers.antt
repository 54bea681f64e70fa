use Rattle.std.proofs.Common.{List, set, sym, ap, ◌∙◌}
use Rattle.std.specs.Prelude.{slice_get}
use Rattle.connection_table.specs.Tables.{Slot, Away, Ended}
use Rattle.connection_ends.specs.declared.end.End.{End}
use Rattle.connection_ends.specs.declared.end.End.TheVariants as E
use Rattle.open_connection.specs.Connection.{OpenSeen, ConnectionSeen}
use Rattle.session_state.specs.Views.{slots_in, is_named_in}
use Rattle.session_state.proofs.Sets.{set_twice, set_same, set_there}
use Rattle.session_state.proofs.Viewed.{view_set}
use Rattle.session_state.proofs.Taking.{named_ends, unnamed_stays}
use Rattle.session_state.proofs.take_over.take_over_one.Goals as goal

pub close-requires-clause-taken : goal.close-requires-clause-taken
close-requires-clause-taken g c = ap (λ (ss : List (Slot OpenSeen End)). slice_get ss c.args.earlier.0) c.in-Some.ensures.out ∙ set_there c.args.table.now.slots c.args.earlier.0 Away c.requires.within

pub returns-in-Some-clause-slots : goal.returns-in-Some-clause-slots
returns-in-Some-clause-slots g c slot found =
    ap slots_in (c.close.ensures.slots ∙ ap (λ (ss : List (Slot OpenSeen End)). set ss c.args.earlier.0 (Ended (E.TakenOver c.args.c))) c.in-Some.ensures.out ∙ set_twice c.args.table.now.slots c.args.earlier.0 Away (Ended (E.TakenOver c.args.c)))
    ∙ view_set c.args.table.now.slots c.args.earlier.0 (Ended (E.TakenOver c.args.c))
    ∙ ap (λ (s : Slot ConnectionSeen End). set (slots_in c.args.table.now.slots) c.args.earlier.0 s)
    (sym (named_ends c.args.table.now.slots c.args.earlier.0 c.args.uuid.now c.args.c slot (ap (is_named_in c.args.uuid.now) (sym c.get.ensures) ∙ sym c.is_named.ensures ∙ c.if-is_named.true) found))

pub returns-else-is_named-clause-slots : goal.returns-else-is_named-clause-slots
returns-else-is_named-clause-slots g c slot found =
    sym (set_same (slots_in c.args.table.now.slots) c.args.earlier.0 slot found)
    ∙ ap (λ (s : Slot ConnectionSeen End). set (slots_in c.args.table.now.slots) c.args.earlier.0 s)
    (sym (unnamed_stays c.args.table.now.slots c.args.earlier.0 c.args.uuid.now c.args.c slot (ap (is_named_in c.args.uuid.now) (sym c.get.ensures) ∙ sym c.is_named.ensures ∙ c.if-is_named.false) found))
