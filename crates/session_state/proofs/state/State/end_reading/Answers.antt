use Rattle.std.proofs.Common.{set, ap, ◌∙◌}
use Rattle.connection_table.specs.Tables.{Ended}
use Rattle.session_steps.specs.Seen.{Seen}
use Rattle.session_state.specs.Views.{slots_in}
use Rattle.session_state.proofs.Viewed.{view_set}
use Rattle.session_state.proofs.Seeing.{moved_to}
use Rattle.session_state.proofs.state.State.end_reading.Goals as goal

pub returns-clause-state : goal.returns-clause-state
returns-clause-state g c = moved_to _ _ _ _ _ c.self.view_is
    (ap slots_in c.close.ensures.slots ∙ view_set c.self.inside.table.slots c.args.c.0 (Ended c.args.end) ∙ ap (λ (s : Seen _). set s.slots c.args.c.0 (Ended c.args.end)) c.self.view_is)
