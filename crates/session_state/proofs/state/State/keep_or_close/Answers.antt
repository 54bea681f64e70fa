use Rattle.std.proofs.Common.{set, sym, ap, ◌∙◌}
use Rattle.connection_table.specs.Tables.{Slot, Open, Ended}
use Rattle.connection_ends.specs.declared.end.End.{End}
use Rattle.connection_ends.specs.declared.end.End.TheVariants as E
use Rattle.open_connection.specs.Connection.{ConnectionSeen, connection_in}
use Rattle.session_steps.specs.Seen.{Seen}
use Rattle.session_steps.specs.Sending.{slot_after}
use Rattle.session_state.specs.Views.{slots_in}
use Rattle.session_state.proofs.Viewed.{view_set}
use Rattle.session_state.proofs.Seeing.{moved_to, not_failed}
use Rattle.session_state.proofs.state.State.keep_or_close.Goals as goal

pub returns-in-Failed-clause-state : goal.returns-in-Failed-clause-state
returns-in-Failed-clause-state g c = moved_to _ _ _ _ _ c.self.view_is
    (ap slots_in c.close.ensures.slots ∙ view_set c.self.inside.table.slots c.args.c.0 (Ended E.LinkFault) ∙ ap (λ (s : Seen _). set s.slots c.args.c.0 (Ended E.LinkFault)) c.self.view_is
    ∙ ap (λ o. set c.args.self.now.slots c.args.c.0 (slot_after (connection_in c.args.connection) o)) (sym c.in-Failed.is))

pub returns-in_default : goal.returns-in_default
returns-in_default g c = record {
  state = moved_to _ _ _ _ _ c.self.view_is
      (ap slots_in c.put_back.ensures ∙ view_set c.self.inside.table.slots c.args.c.0 (Open c.args.connection) ∙ ap (λ (s : Seen _). set s.slots c.args.c.0 (Open (connection_in c.args.connection))) c.self.view_is
      ∙ ap (λ (s : Slot ConnectionSeen End). set c.args.self.now.slots c.args.c.0 s) (sym (not_failed (connection_in c.args.connection) c.args.out c.in_default.not-Failed)));
  connections = λ d. ap (λ (s : Seen _). g.B.Bay.connection s.bay d) c.self.view_is;
  provider = ap (λ (s : Seen _). g.B.Bay.provider s.bay) c.self.view_is;
}
